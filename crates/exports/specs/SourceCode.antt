-- Answers about a source text, as one number.
use Rattle.std.specs.Prelude.{◌≡◌, List, ℕ, ◌≤◌, length, Result, Ok, Err}
use Rattle.token_list.specs.Check.{END}
use Rattle.source.specs.Answer.{Answer, wrote, fault_at, refused, answer, output}
use Rattle.source.specs.Place.{row_span}
use Rattle.source.specs.declared.tokens.SourceError.{SourceError}
use Rattle.source.specs.declared.tokens.SourceError.TheVariants as errors
use Rattle.exports.specs.Code.{Case, accepted, refusal, code, decoded}

-- what is told of a text: a case, or 40 at an offset
pub data TextCase : Type 0 where
  told : Case → TextCase
  at : ℕ → TextCase

-- 40 has the end mark, since its offset stands elsewhere
abbrev pub case_of : TextCase → Case
case_of (told c) = c
case_of (at offset) = refusal 40 END

-- the offset of 40; else the number p that stood there
abbrev pub place_told : ℕ → TextCase → ℕ
place_told p (told c) = p
place_told p (at offset) = offset

-- what the code's answer tells, whose refusal has a row or the end mark
abbrev pub text_case : Result ℕ SourceError → TextCase
text_case (Ok v) = told (accepted v)
text_case (Err (errors.FaultAt offset)) = at offset
text_case (Err (errors.Refused r)) = told (refusal r.number r.place)

abbrev pub LowTextPlace : Result ℕ SourceError → Type 0
LowTextPlace (Ok v) = Unit
LowTextPlace (Err (errors.FaultAt offset)) = Unit
LowTextPlace (Err (errors.Refused r)) = r.place ≤ END

-- the list's length; 40 has the end mark, since its offset stands elsewhere
abbrev pub tokens_case : Answer → Case
tokens_case (wrote t) = accepted (length t)
tokens_case (fault_at offset) = refusal 40 END
tokens_case (refused n p) = refusal n p

-- the offset of 40; else the number p that stood there
abbrev pub place_after : ℕ → Answer → ℕ
place_after p (wrote t) = p
place_after p (fault_at offset) = offset
place_after p (refused n q) = p

-- the number r for a text s, which gives back its case; the whole output, and the place, which was p and is q
pub record TokensInto (s before after : List ℕ) (p q r : ℕ) : Type 0 where
  pub code : r ≡ code (tokens_case (answer (length before) s))
  pub back : decoded r ≡ tokens_case (answer (length before) s)
  pub output : after ≡ output before (answer (length before) s)
  pub place : q ≡ place_after p (answer (length before) s)

-- the row's text stands in s at o, and has n bytes
pub record RowPlace (s : List ℕ) (row o n : ℕ) : Type 0 where
  pub offset : o ≡ (row_span s row).offset
  pub length : n ≡ (row_span s row).length
