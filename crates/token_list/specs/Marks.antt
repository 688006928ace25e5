-- Rows aside from their marks, and two lists that are equal but for these (document 02, card 6).
use Rattle.std.specs.Prelude.{◌≡◌, false, List, map, ℕ}
use Rattle.token_list.specs.Layout.{first_row}
use Rattle.token_list.specs.Row.{Row}
use Rattle.token_list.specs.Check.{check, passed}
use Rattle.token_list.specs.Stream.{Trees, end, leaf, group, rows_at, at}

-- no mark in place of what stands there
abbrev pub unmarked_row : Row → Row
unmarked_row q = record { kind = q.kind; joint = false; text = q.text }

abbrev pub unmarked_rows : List Row → List Row
unmarked_rows qs = map unmarked_row qs

-- also inside groups
abbrev pub unmarked : Trees → Trees
unmarked end = end
unmarked (leaf q us) = leaf (unmarked_row q) (unmarked us)
unmarked (group d ts us) = group d (unmarked ts) (unmarked us)

-- the rows of a list, past its line of names, and their stream
abbrev pub rows_of : List ℕ → List Row
rows_of s = rows_at s (first_row s)

abbrev pub stream_of : List ℕ → Trees
stream_of s = (at s (first_row s)).here

-- Both lists pass the check, each with either names, and their rows differ in marks at most.
pub record EqualButMarks (s t : List ℕ) : Type 0 where
  pub one : (n : ℕ) × (check s ≡ passed n)
  pub other : (n : ℕ) × (check t ≡ passed n)
  pub rows : unmarked_rows (rows_of s) ≡ unmarked_rows (rows_of t)
