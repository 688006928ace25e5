-- What a program prints of a source text (document 02, card 1: a refusal of 40 with its offset, line and column).
use Rattle.std.specs.Prelude.{List, [], ◌∷◌, ◌++◌, ℕ, ◌≤◌, Result, Ok, Err, length}
use Rattle.token_list.specs.Byte.{bytes, LF, SPACE, COLON}
use Rattle.token_list.specs.Layout.{MAX_BYTES}
use Rattle.output.specs.Text.{decimal, refusal_text}
use Rattle.output.specs.Contract.{Printed}
use Rattle.source.specs.Answer.{Answer, wrote, fault_at, refused, answer}
use Rattle.source.specs.Place.{line_of, column_of}
use Rattle.source.specs.declared.tokens.SourceError.{SourceError}
use Rattle.source.specs.declared.tokens.SourceError.TheVariants as errors

-- line and column of an offset
unfoldable pub position_text : List ℕ → ℕ → List ℕ
position_text s offset = decimal (line_of s offset) ++ COLON ∷ decimal (column_of s offset)

-- the line of names, and a line with 40, the offset, its line and column
unfoldable pub fault_text : List ℕ → ℕ → List ℕ
fault_text s offset =
    bytes "refused place\n40 " ++ (decimal offset ++ SPACE ∷ (position_text s offset ++ LF ∷ []))

abbrev pub tokens_text : List ℕ → Answer → List ℕ
tokens_text s (wrote t) = t
tokens_text s (fault_at offset) = fault_text s offset
tokens_text s (refused n p) = refusal_text n p

-- how long what is printed can be
abbrev pub at_most : Result ℕ SourceError → ℕ
at_most (Ok n) = n
at_most (Err (errors.FaultAt offset)) = 128
at_most (Err (errors.Refused r)) = 64

-- the output was `before` and is `after`, and r bytes of it are printed
pub record ReportedTokens (s before after : List ℕ) (r : ℕ) : Type 0 where
  pub printed : Printed before after r (tokens_text s (answer (length before) s))
  pub short : r ≤ MAX_BYTES
