-- The answer of the list check (document 01, "What the reader hands back": refusals 1 to 7 in the order "1, 2; row by
-- row 4, 3, then 5 or 6; 7").
use Rattle.std.specs.Prelude.{Bool, true, false, cond, ◌&&◌, List, [], ◌∷◌, ℕ, ◌+◌, leb, ltb, eqb, length, take, drop}
use Rattle.token_list.specs.Layout.{OPEN, CLOSE, names, marked, first_row, MAX_BYTES, MAX_ROWS, MAX_TEXT}
use Rattle.token_list.specs.Layout.{MAX_DEPTH}
use Rattle.token_list.specs.Text.{same, closer}
use Rattle.token_list.specs.Row.{Lines, tail, line, lines, Form, plain, opens, closed, wrong, form, form_of, first}
use Rattle.token_list.specs.Row.{Row, right_mark}

pub data Answer : Type 0 where
  -- the number of rows
  passed : ℕ → Answer
  -- the refusal's number and place
  refused : ℕ → ℕ → Answer

-- the end mark
abbrev pub END : ℕ
END = 65535

-- a group that is open: its delimiter and its opening row
pub record Open : Type 0 where
  pub delimiter : ℕ
  pub row : ℕ

-- the list ends after r rows
abbrev pub ended : ℕ → List Open → Answer
ended r [] = passed r
ended r (g ∷ gs) = refused 7 g.row

-- a closing row r with delimiter d
abbrev pub close : ℕ → ℕ → List Open → (List Open → Answer) → Answer
close r d [] go = refused 5 r
close r d (g ∷ gs) go = cond (eqb (closer g.delimiter) d) (go gs) (refused 5 r)

-- row r of the given form under the open groups gs (innermost first); go answers for the rows after it
abbrev pub step : ℕ → List Open → Form → (List Open → Answer) → Answer
step r gs wrong go = refused 3 r
step r gs plain go = go gs
step r gs (opens d) go = cond (leb MAX_DEPTH (length gs)) (refused 6 r) (go (record { delimiter = d; row = r } ∷ gs))
step r gs (closed d) go = close r d gs go

-- the lines from row r on, with marks or without
abbrev pub walk : Bool → ℕ → List Open → Lines → Answer
walk m r gs (tail []) = ended r gs
walk m r gs (tail (b ∷ bs)) = cond (leb MAX_ROWS r) (refused 4 MAX_ROWS) (refused 3 r)
walk m r gs (line l ls) =
    cond (leb MAX_ROWS r) (refused 4 MAX_ROWS) (step r gs (form m l) (λ hs. walk m (r + 1) hs ls))

-- a list has one of the two lines of names
abbrev pub named : List ℕ → Bool
named s = same (take (first_row s) s) (names (marked s))

unfoldable pub check : List ℕ → Answer
check s =
    cond (ltb MAX_BYTES (length s)) (refused 1 END)
    (cond (named s) (walk (marked s) 0 [] (lines (drop (first_row s) s))) (refused 2 END))

-- ## What a list that passes is, for other statements than `check`

-- a row of a right form
abbrev pub is_row : Form → Bool
is_row plain = true
is_row (opens d) = true
is_row (closed d) = true
is_row wrong = false

abbrev pub right : Bool → Row → Bool
right m r = is_row (form_of r.kind r.text) && (leb (length r.text) MAX_TEXT && right_mark m r)

abbrev pub all_right : Bool → List Row → Bool
all_right m [] = true
all_right m (r ∷ rs) = right m r && all_right m rs

abbrev pub closed_by : List ℕ → ℕ → Bool
closed_by [] c = false
closed_by (d ∷ ds) c = eqb (closer d) c

abbrev pub enclosing : List ℕ → List ℕ
enclosing [] = []
enclosing (d ∷ ds) = ds

abbrev pub none : List ℕ → Bool
none [] = true
none (d ∷ ds) = false

-- rows of a right form under the open delimiters ds, at most MAX_DEPTH of them open at once, each group closed by its
-- own close
abbrev pub nested : Bool → List ℕ → List Row → Bool
nested m ds [] = none ds
nested m ds (r ∷ rs) =
    right m r
    && cond (eqb r.kind OPEN) (ltb (length ds) MAX_DEPTH && nested m (first r.text ∷ ds) rs)
    (cond (eqb r.kind CLOSE) (closed_by ds (first r.text) && nested m (enclosing ds) rs) (nested m ds rs))
