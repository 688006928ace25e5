-- What every refusal is: one number, with a row or the end mark (document 01, "What the reader hands back").
use Rattle.std.specs.Prelude.{◌≡◌, ◌⊎◌, Bool, true, List, ℕ, ◌≤◌, ◌<◌, drop}
use Rattle.token_list.specs.Layout.{first_row, MAX_ROWS}
use Rattle.token_list.specs.Text.{between}
use Rattle.token_list.specs.Row.{lines, begun}
use Rattle.token_list.specs.Check.{END}

-- A row of the list s, or one that begins in it: the malformed row that 3 names, the row after 4,096 that 4 names. In a
-- list that passes the check just its rows begin.
pub record RowOf (s : List ℕ) (p : ℕ) : Type 0 where
  pub begins : p < begun (lines (drop (first_row s) s))
  pub low : p ≤ MAX_ROWS

-- a refusal of a list s with one of these numbers
pub record OneRefusal (numbers : ℕ → Bool) (s : List ℕ) (number place : ℕ) : Type 0 where
  pub one : numbers number ≡ true
  pub stands : (place ≡ END) ⊎ RowOf s place

-- the numbers of the list check
abbrev pub check_number : ℕ → Bool
check_number n = between 1 7 n
