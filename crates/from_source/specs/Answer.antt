-- The answers for a source text: the text's own refusals (document 02, card 1), or what is answered for its token list.
use Rattle.std.specs.Prelude.{◌≡◌, Bool, List, ◌++◌, ℕ, ◌-◌, length, replicate}
use Rattle.token_list.specs.Layout.{MAX_BYTES}
use Rattle.token_list.specs.Check.{END}
use Rattle.token_list.specs.Place.{OneRefusal}
use Rattle.output.specs.Answer as outputs
use Rattle.reading.specs.Declaration.{Declaration}
use Rattle.reading.specs.Role as role
use Rattle.reading.specs.Answer as readings
use Rattle.source.specs.Answer as source
use Rattle.describe.specs.Listing as listing

-- the list of a text always has room: what is refused of the text is 40, or 41 at the end mark
pub record Roomy (s : List ℕ) : Type 0 where
  pub limits : (n p : ℕ) → source.answer MAX_BYTES s ≡ source.refused n p → (n ≡ 41) × (p ≡ END)

-- a refusal of a text s but 40: that its list passes a limit, or the list's one refusal, with one of these numbers
pub data TextRefusal (numbers : ℕ → Bool) (s : List ℕ) (n p : ℕ) : Type 0 where
  long : source.answer MAX_BYTES s ≡ source.refused n p → n ≡ 41 → p ≡ END → TextRefusal numbers s n p
  in_list : {list : List ℕ} → source.answer MAX_BYTES s ≡ source.wrote list → OneRefusal numbers list n p
      → TextRefusal numbers s n p

-- ## The listing

-- what is written for a list: a text, or a refusal
abbrev pub written_answer : outputs.Answer → source.Answer
written_answer (outputs.wrote t) = source.wrote t
written_answer (outputs.refused n p) = source.refused n p

-- from the answer that gives the list, in an output of n bytes
abbrev pub listed_answer : ℕ → source.Answer → source.Answer
listed_answer n (source.wrote list) = written_answer (listing.answer list n)
listed_answer n (source.fault_at offset) = source.fault_at offset
listed_answer n (source.refused m p) = source.refused m p

-- of a text, whose list has room for as many bytes as a list may have
unfoldable pub listing_answer : ℕ → List ℕ → source.Answer
listing_answer n s = listed_answer n (source.answer MAX_BYTES s)

-- the same where there is room
abbrev pub listed_fully : source.Answer → source.Answer
listed_fully (source.wrote list) = written_answer (listing.full_answer list)
listed_fully (source.fault_at offset) = source.fault_at offset
listed_fully (source.refused m p) = source.refused m p

unfoldable pub full_answer : List ℕ → source.Answer
full_answer s = listed_fully (source.answer MAX_BYTES s)

-- ## The declaration

pub data Answer : Type 0 where
  -- the declaration, and the role of each row of the list
  declared : Declaration → List ℕ → Answer
  -- 40, at this offset
  fault_at : ℕ → Answer
  -- a refusal's number and place
  refused : ℕ → ℕ → Answer

-- what is read of a list
abbrev pub reading_answer : readings.Answer → Answer
reading_answer (readings.declared d rs) = declared d rs
reading_answer (readings.refused n p) = refused n p

-- from the answer that gives the list, with a role buffer of n bytes
abbrev pub list_read : ℕ → source.Answer → Answer
list_read n (source.wrote list) = reading_answer (readings.answer list n)
list_read n (source.fault_at offset) = fault_at offset
list_read n (source.refused m p) = refused m p

unfoldable pub read_answer : ℕ → List ℕ → Answer
read_answer n s = list_read n (source.answer MAX_BYTES s)

-- the role buffer: the roles, then no role; after a refusal no role throughout
abbrev pub buffer : ℕ → Answer → List ℕ
buffer n (declared d rs) = rs ++ replicate (n - length rs) role.none
buffer n (fault_at offset) = replicate n role.none
buffer n (refused m p) = replicate n role.none
