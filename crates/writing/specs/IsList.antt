-- What is written is again a list (document 01, "The token list"), which may pass the limits of bytes and rows alone.
use Rattle.std.specs.Prelude.{◌≡◌, true, List, [], ℕ, ◌≤◌, length}
use Rattle.token_list.specs.Layout.{marked, first_row, MAX_BYTES, MAX_ROWS}
use Rattle.token_list.specs.Row.{Row}
use Rattle.token_list.specs.Rows.{list_of}
use Rattle.token_list.specs.Check.{check, passed, nested}
use Rattle.token_list.specs.Stream.{streams, rows_at, at}
use Rattle.writing.specs.Depth.{depth}

-- the rows rs, written from the list s with its names
pub record IsList (s : List ℕ) (rs : List Row) : Type 0 where
  -- every row is of a right form, and every group is closed by its own close
  pub nested : nested (marked s) [] rs ≡ true
  -- no group stands deeper than in s
  pub deep : depth (streams rs).here ≤ depth (at s (first_row s)).here
  -- within the limits the list passes the check
  pub passes : length (list_of (marked s) rs) ≤ MAX_BYTES → length rs ≤ MAX_ROWS
      → check (list_of (marked s) rs) ≡ passed (length rs)
  -- and its rows are these, with their marks
  pub names : marked (list_of (marked s) rs) ≡ marked s
  pub rows : rows_at (list_of (marked s) rs) (first_row (list_of (marked s) rs)) ≡ rs
