-- Rows as they stand in a list, right or not, and the reader that goes through them (document 01, "What must change
-- shape").
use Rattle.std.specs.Prelude.{◌≡◌, List, [], ◌∷◌, ℕ, ◌+◌, ◌≤◌, length, take, drop, Option, Some, None}
use Rattle.std.proofs.Math.Seq.{slice}
use Rattle.token_list.specs.Layout.{first_row}
use Rattle.token_list.specs.Row.{Lines, tail, line, lines}
use Rattle.token_list.specs.declared.check.Cursor.{Cursor}
use Rattle.token_list.specs.declared.reader.Reader.{Reader}

-- the bytes of each row that begins: one a line, without its LF, and one more where bytes stand after the last LF
abbrev pub row_bytes : Lines → List (List ℕ)
row_bytes (tail []) = []
row_bytes (tail (b ∷ bs)) = (b ∷ bs) ∷ []
row_bytes (line l ls) = l ∷ row_bytes ls

-- those of the rows of a list that begin at an offset or after it
abbrev pub bytes_from : List ℕ → ℕ → List (List ℕ)
bytes_from s i = row_bytes (lines (drop i s))

-- The row and the offset belong together: the rows from the offset on are those from the row on. Past the last row both
-- are none.
pub record AtRow (s : List ℕ) (c : Cursor) : Type 0 where
  pub counted : c.row ≤ c.at
  pub rows : bytes_from s c.at ≡ drop c.row (bytes_from s (first_row s))

-- what is shown of lines that start at i: the first, from i to its LF or the list's end, or that none is left
abbrev pub shown_of : ℕ → Lines → Option (ℕ × ℕ)
shown_of i (tail []) = None
shown_of i (tail (b ∷ bs)) = Some (i, i + length (b ∷ bs))
shown_of i (line l ls) = Some (i, i + length l)

-- the next line with its row; where none is left, the same
abbrev pub onward : Cursor → Lines → Cursor
onward c (tail []) = c
onward c (tail (b ∷ bs)) = record { at = c.at + length (b ∷ bs); row = c.row + 1 }
onward c (line l ls) = record { at = c.at + length l + 1; row = c.row + 1 }

-- the bytes of the row that is shown
abbrev pub shown_bytes : List ℕ → Option (ℕ × ℕ) → List (List ℕ)
shown_bytes s None = []
shown_bytes s (Some (a, e)) = slice a e s ∷ []

-- what stands at i, and that it is the row that i belongs to
pub record Shows (s : List ℕ) (i : ℕ) (r : Option (ℕ × ℕ)) : Type 0 where
  pub answer : r ≡ shown_of i (lines (drop i s))
  pub bytes : shown_bytes s r ≡ take 1 (bytes_from s i)
  pub row : (n : ℕ) → AtRow s (record { at = i; row = n })
      → shown_bytes s r ≡ take 1 (drop n (bytes_from s (first_row s)))

-- from c to the next row, or to the end
pub record GoesOn (s : List ℕ) (c d : Cursor) : Type 0 where
  pub answer : d ≡ onward c (lines (drop c.at s))
  pub rest : bytes_from s d.at ≡ drop 1 (bytes_from s c.at)
  pub row : AtRow s c → AtRow s d

-- a reader's row and offset
abbrev pub cursor_of : Reader → Cursor
cursor_of r = record { at = r.at; row = r.row }
