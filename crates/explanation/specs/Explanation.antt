-- What is written of a list: for one that is read, a line for each row with its role in words; for a refusal its
-- number, its place and its meaning, and the rows near the place.
use Rattle.std.specs.Prelude.{Bool, true, cond, ◌&&◌, List, [], ◌∷◌, ◌++◌, ℕ, suc, ◌+◌, ◌-◌, ◌*◌, leb, eqb, length}
use Rattle.std.specs.Prelude.{take}
use Rattle.token_list.specs.Byte.{bytes, LF}
use Rattle.token_list.specs.Layout.{names, marked, first_row, text_offset, MAX_TEXT, MAX_BYTES, MAX_ROWS}
use Rattle.token_list.specs.Check.{END}
use Rattle.token_list.specs.Reader.{bytes_from}
use Rattle.reading.specs.Answer.{Answer, declared, refused}
use Rattle.output.specs.Text.{refusal_text}
use Rattle.explanation.specs.Row.{shown, column}
use Rattle.explanation.specs.Words.{role_words, meaning}

-- ## A list that is read

-- no row of a list that is read has more bytes
abbrev pub ROW_BYTES : ℕ
ROW_BYTES = text_offset true + MAX_TEXT

-- a row's number, its role in words, and the row as it stands: its kind, with marks its mark, its text
unfoldable pub role_line : ℕ → ℕ → List ℕ → List ℕ
role_line n role b =
    column n ++ (bytes "  " ++ (role_words role ++ (shown (take ROW_BYTES b) ++ LF ∷ [])))

-- a line for each role and the row that it is of
abbrev pub role_rows : ℕ → List ℕ → List (List ℕ) → List ℕ
role_rows n [] bs = []
role_rows n (r ∷ rs) [] = []
role_rows n (r ∷ rs) (b ∷ bs) = role_line n r b ++ role_rows (suc n) rs bs

-- the line of names, with the list's own
abbrev pub names_line : Bool → List ℕ
names_line m = bytes " row  role                         " ++ names m

-- ## A list that is refused

-- how many bytes of a row are shown
abbrev pub CUT : ℕ
CUT = 255

-- two rows before the place, itself, and two after it; for the end mark the last three of all
abbrev pub near : ℕ → ℕ → ℕ → Bool
near place count n = cond (eqb place END) (leb (count - n) 3) (leb (place - n) 2 && leb (n - place) 2)

unfoldable pub sign : ℕ → ℕ → List ℕ
sign place n = cond (eqb n place) (bytes "> ") (bytes "  ")

unfoldable pub near_line : ℕ → ℕ → List ℕ → List ℕ
near_line place n b = sign place n ++ (column n ++ (bytes "  " ++ (shown (take CUT b) ++ LF ∷ [])))

-- those of some rows that are near
abbrev pub near_rows : ℕ → ℕ → ℕ → List (List ℕ) → List ℕ
near_rows place count n [] = []
near_rows place count n (b ∷ bs) =
    cond (near place count n) (near_line place n b) [] ++ near_rows place count (suc n) bs

-- ## The whole

abbrev pub explanation : List ℕ → Answer → List ℕ
explanation s (declared d rs) = names_line (marked s) ++ role_rows 0 rs (bytes_from s (first_row s))
explanation s (refused n p) =
    let rows = bytes_from s (first_row s) in
    refusal_text n p ++ (meaning n ++ (LF ∷ [] ++ near_rows p (length rows) 0 rows))

-- no explanation has more bytes: 4 for each byte of a list, 40 for each row, and the line of names
abbrev pub MOST : ℕ
MOST = 4 * MAX_BYTES + 40 * MAX_ROWS + 64
