-- A variant's value (document 01, "What the reader hands back").
use Rattle.std.specs.Prelude.{cond, List, [], ◌∷◌, ℕ, zero, suc, ltb, eqb}
use Rattle.std.proofs.lemmas.List.Edits.{sets}
use Rattle.token_list.specs.Byte.{ZERO, MINUS}
use Rattle.token_list.specs.Check as list
use Rattle.output.specs.Text.{decimal}
use Rattle.reading.specs.Declaration.{Value, absent, literal, negative, Variant, Body, fields, variants, Declaration}
use Rattle.reading.specs.Took.{Took, took, stopped, Point}
use Rattle.reading.specs.Answer.{framed}
use Rattle.reading.specs.Place.{start, inside, body_at, variant_at, value_row}

-- a negative, written anew: `-7` for `-007`, `0` for `-0`
unfoldable pub negative_text : ℕ → List ℕ
negative_text n = cond (eqb n 0) (ZERO ∷ []) (MINUS ∷ decimal n)

-- the most bytes that such a text has
abbrev pub SCRATCH_BYTES : ℕ
SCRATCH_BYTES = 20

-- the value of the variant at a position; none where there is no such variant
abbrev pub value_at : ℕ → List Variant → Value
value_at k [] = absent
value_at zero (v ∷ vs) = v.value
value_at (suc k) (v ∷ vs) = value_at k vs

abbrev pub body_value : ℕ → Body → Value
body_value k (fields f) = absent
body_value k (variants vs) = value_at k vs

pub data Answer : Type 0 where
  none : Answer
  -- a part of the list itself: the row of the literal, and its text
  in_list : ℕ → List ℕ → Answer
  -- a text that is written into the scratch
  in_scratch : List ℕ → Answer
  -- the refusal's number and place
  refused : ℕ → ℕ → Answer

-- a value whose literal stands in this row
abbrev pub value_answer : ℕ → Value → Answer
value_answer row absent = none
value_answer row (literal t) = in_list row t
value_answer row (negative n) = in_scratch (negative_text n)

-- the value v of the variant at position k of an item that begins at x
abbrev pub variant_answer : Point → ℕ → Value → Answer
variant_answer x k v = value_answer (value_row (variant_at k (inside (body_at x))) v) v

abbrev pub item_answer : Point → ℕ → Took Declaration → Answer
item_answer x k (took d rs us) = variant_answer x k (body_value k d.body)
item_answer x k (stopped w n p) = refused n p

-- for a list s, the variant at position k, and a scratch of n bytes
unfoldable pub answer : List ℕ → ℕ → ℕ → Answer
answer s k n = framed refused (λ rows. ltb n SCRATCH_BYTES) (item_answer (start s) k) s (list.check s)

-- the scratch is written where the answer is a part of it, and past that part it stays
abbrev pub scratch : List ℕ → Answer → List ℕ
scratch x none = x
scratch x (in_list row t) = x
scratch x (in_scratch t) = sets x 0 t
scratch x (refused n p) = x

-- the value's text, empty where there is none
abbrev pub value_text : Answer → List ℕ
value_text none = []
value_text (in_list row t) = t
value_text (in_scratch t) = t
value_text (refused n p) = []
