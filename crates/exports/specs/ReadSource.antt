-- The answer about a source text that is read in one call, as one number.
use Rattle.std.specs.Prelude.{◌≡◌, ◌⊎◌, List, ℕ, length}
use Rattle.reading.specs.Answer.{read_number}
use Rattle.from_source.specs.Answer as reads
use Rattle.from_source.specs.Answer.{TextRefusal, read_answer, buffer}
use Rattle.exports.specs.Code.{accepted, refusal, code, decoded, kind_code}
use Rattle.exports.specs.SourceCode.{TextCase, told, at, case_of, place_told}

-- the number r, which gives back its case; and the place, which was p and is q
pub record TextCoded (c : TextCase) (p q r : ℕ) : Type 0 where
  pub code : r ≡ code (case_of c)
  pub back : decoded r ≡ case_of c
  pub place : q ≡ place_told p c

-- 0 for a struct, 1 for an enum
abbrev pub source_case : reads.Answer → TextCase
source_case (reads.declared d rs) = told (accepted (kind_code d.kind))
source_case (reads.fault_at offset) = at offset
source_case (reads.refused n p) = told (refusal n p)

-- the answer for a text s, and the whole role buffer; a refusal is 40 at q, 41, or the one of the text's list
pub record ReadSourceInto (s before after : List ℕ) (p q r : ℕ) : Type 0 where
  pub coded : TextCoded (source_case (read_answer (length before) s)) p q r
  pub buffer : after ≡ buffer (length before) (read_answer (length before) s)
  pub refusal : (n m : ℕ) → decoded r ≡ refusal n m
      → (read_answer (length before) s ≡ reads.fault_at q) ⊎ TextRefusal read_number s n m
