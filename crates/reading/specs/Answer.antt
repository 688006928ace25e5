-- The whole answer of the reader of declarations, and the whole role buffer (document 01, "What the reader hands
-- back").
use Rattle.std.specs.Prelude.{Bool, true, false, cond, ◌||◌, List, ◌++◌, ℕ, ◌-◌, ltb, length, replicate}
use Rattle.token_list.specs.Layout.{first_row}
use Rattle.token_list.specs.Text.{between}
use Rattle.token_list.specs.Check as list
use Rattle.token_list.specs.Stream.{size, at}
use Rattle.reading.specs.Role as role
use Rattle.reading.specs.Declaration.{Declaration}
use Rattle.reading.specs.Took.{Took, took, stopped}
use Rattle.reading.specs.Reading.{item}

-- The order of every answer about a declaration: the list check's refusal; 8 where a role buffer or scratch is too
-- short for a list of so many rows; then what is made of the item.
abbrev pub framed : {A : Type 0} → (ℕ → ℕ → A) → (ℕ → Bool) → (Took Declaration → A) → List ℕ → list.Answer → A
framed refused short made s (list.Answer.refused n p) = refused n p
framed refused short made s (list.Answer.passed rows) =
    cond (short rows) (refused 8 list.END) (made (item 0 (at s (first_row s)).here))

pub data Answer : Type 0 where
  -- the declaration, and the role of each row
  declared : Declaration → List ℕ → Answer
  -- the refusal's number and place
  refused : ℕ → ℕ → Answer

-- the rows after the item are left over
abbrev pub item_answer : Took Declaration → Answer
item_answer (took d rs us) = declared d (rs ++ replicate (size us) role.left_over)
item_answer (stopped w n p) = refused n p

-- for a list s and a role buffer of n bytes, which needs a byte a row
unfoldable pub answer : List ℕ → ℕ → Answer
answer s n = framed refused (λ rows. ltb n rows) item_answer s (list.check s)

-- the roles, then no role; after a refusal no role throughout
abbrev pub buffer : ℕ → Answer → List ℕ
buffer n (declared d rs) = rs ++ replicate (n - length rs) role.none
buffer n (refused m p) = replicate n role.none

-- the numbers of refusals where a declaration is read: those of the list check, 8, and 11 to 27
abbrev pub read_number : ℕ → Bool
read_number n = between 1 8 n || between 11 27 n

-- whether the reader of declarations refuses nothing
abbrev pub accepts : Answer → Bool
accepts (declared d rs) = true
accepts (refused m p) = false
