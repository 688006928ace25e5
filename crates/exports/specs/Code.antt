-- Answers as one number: below 2^32 nothing was refused, else the number is 2^32 times the refusal's number, plus its
-- place (a row, or the end mark 65,535).
use Rattle.std.specs.Prelude.{◌≡◌, Bool, cond, List, ℕ, ◌+◌, ◌*◌, ◌/◌, ◌%◌, ◌≤◌, min, eqb, ltb, length}
use Rattle.std.specs.Prelude.{Option, Some, None, Result, Ok, Err}
use Rattle.token_list.specs.Text.{same}
use Rattle.token_list.specs.Pairs.{pairs}
use Rattle.token_list.specs.Check as list
use Rattle.token_list.specs.Place.{OneRefusal}
use Rattle.reading.specs.Declaration.{Kind, struct, enum}
use Rattle.reading.specs.Answer as answers
use Rattle.output.specs.Answer as outputs
use Rattle.token_list.specs.declared.check.Refusal.{Refusal}
use Rattle.tagged_reading.specs.Reading as tagged
use Rattle.tagged_reading.specs.Answer as tagged_answers
use Rattle.writing.specs.Answer as writing
use Rattle.describe.specs.Value as value
use Rattle.describe.specs.Contract.{place_of}
use Rattle.describe.specs.declared.value.ValuePlace.{ValuePlace}
use Rattle.describe.specs.declared.value.ValuePlace.TheVariants as places

-- what a number stands for: an acceptance with a number of its own, or a refusal's number and place
pub data Case : Type 0 where
  accepted : ℕ → Case
  refusal : ℕ → ℕ → Case

-- 2^32: a refusal is told from here on
abbrev pub REFUSED : ℕ
REFUSED = 4294967296

abbrev pub code : Case → ℕ
code (accepted v) = v
code (refusal n p) = n * REFUSED + p

unfoldable pub decoded : ℕ → Case
decoded c = cond (ltb c REFUSED) (accepted c) (refusal (c / REFUSED) (c % REFUSED))

-- the number r stands for this case of a list s, and gives it back; a refusal has one of these numbers, with a row or
-- the end mark
pub record Coded (numbers : ℕ → Bool) (s : List ℕ) (c : Case) (r : ℕ) : Type 0 where
  pub code : r ≡ code c
  pub back : decoded r ≡ c
  pub refusal : (n p : ℕ) → decoded r ≡ refusal n p → OneRefusal numbers s n p

-- ## Each function's answer

-- the number of rows
abbrev pub check_case : list.Answer → Case
check_case (list.Answer.passed n) = accepted n
check_case (list.Answer.refused n p) = refusal n p

-- 0 for a struct, 1 for an enum
abbrev pub kind_code : Kind → ℕ
kind_code struct = 0
kind_code enum = 1

abbrev pub read_case : answers.Answer → Case
read_case (answers.declared d rs) = accepted (kind_code d.kind)
read_case (answers.refused n p) = refusal n p

-- the answer for a list s, and the whole role buffer
pub record ReadInto (s before after : List ℕ) (r : ℕ) : Type 0 where
  pub coded : Coded answers.read_number s (read_case (answers.answer s (length before))) r
  pub buffer : after ≡ answers.buffer (length before) (answers.answer s (length before))

-- the length of the text that was written
abbrev pub written_case : outputs.Answer → Case
written_case (outputs.wrote text) = accepted (length text)
written_case (outputs.refused n p) = refusal n p

-- the case that the code's answer tells, whose refusal has a row or the end mark
abbrev pub answer_case : Result ℕ Refusal → Case
answer_case (Ok v) = accepted v
answer_case (Err r) = refusal r.number r.place

abbrev pub LowPlace : Result ℕ Refusal → Type 0
LowPlace (Ok v) = Unit
LowPlace (Err r) = r.place ≤ list.END

-- the answer a for a list s, and the whole output
pub record WrittenInto (numbers : ℕ → Bool) (s before after : List ℕ) (a : outputs.Answer) (r : ℕ) : Type 0 where
  pub coded : Coded numbers s (written_case a) r
  pub output : after ≡ outputs.output before a

-- 2^32 - 1: no more bytes of an output are used by the writers of generics
abbrev pub MAX_OUTPUT : ℕ
MAX_OUTPUT = 4294967295

-- the answer of a writer for a list s and the bytes of the output that are used
abbrev pub GeneratedInto : writing.Writer → List ℕ → List ℕ → List ℕ → ℕ → Type 0
GeneratedInto w s before after r =
    WrittenInto writing.write_number s before after (writing.answer w s (min (length before) MAX_OUTPUT)) r

-- 2^16: a part of the list is told from here on
abbrev pub IN_LIST : ℕ
IN_LIST = 65536

-- 0 for no value, below IN_LIST the length of a part of the scratch, else IN_LIST times the start of a part of the
-- list, plus its end
abbrev pub place_number : Option ValuePlace → ℕ
place_number None = 0
place_number (Some (places.InScratch n)) = n
place_number (Some (places.InList a e)) = a * IN_LIST + e

abbrev pub place_case : Result (Option ValuePlace) Refusal → Case
place_case (Ok p) = accepted (place_number p)
place_case (Err r) = refusal r.number r.place

unfoldable pub decoded_place : Case → Result (Option ValuePlace) Refusal
decoded_place (accepted v) =
    cond (eqb v 0) (Ok None)
    (cond (ltb v IN_LIST) (Ok (Some (places.InScratch v))) (Ok (Some (places.InList (v / IN_LIST) (v % IN_LIST)))))
decoded_place (refusal n p) = Err (record { number = n; place = p })

-- the place of the value of the variant of s at a position, and the whole scratch
pub record ValueInto (s : List ℕ) (position : ℕ) (before after : List ℕ) (r : ℕ) : Type 0 where
  pub coded : Coded answers.read_number s (place_case (place_of s (value.answer s position (length before)))) r
  pub back : decoded_place (decoded r) ≡ place_of s (value.answer s position (length before))
  pub scratch : after ≡ value.scratch before (value.answer s position (length before))

-- 0 where the prefix does not stand, 1 where it was found
abbrev pub tagged_case : tagged.Answer → Case
tagged_case tagged.none = accepted 0
tagged_case (tagged.read es rs) = accepted 1
tagged_case (tagged.refused n p) = refusal n p

-- the answer for a prefix and a list s, and the whole role buffer
pub record TaggedInto (prefix s before after : List ℕ) (r : ℕ) : Type 0 where
  pub coded : Coded tagged_answers.tagged_number s (tagged_case (tagged_answers.answer prefix s (length before))) r
  pub buffer : after ≡ tagged_answers.buffer (length before) (tagged_answers.answer prefix s (length before))

-- the number for two names: twice the number of pairs of bytes that are looked at, and one more where the names are the
-- same; it gives back both
pub record NamesCompared (a b : List ℕ) (r : ℕ) : Type 0 where
  pub code : r ≡ 2 * pairs a b + cond (same a b) 1 0
  pub pairs : r / 2 ≡ pairs a b
  pub same : eqb (r % 2) 1 ≡ same a b
