-- The lines of a text and the rows that they are (document 01, "The token list"; document 02, card 6).
use Rattle.std.specs.Prelude.{Bool, true, false, cond, not, ◌&&◌, ◌||◌, List, [], ◌∷◌, ◌++◌, ℕ, zero, suc, ◌+◌, leb}
use Rattle.std.specs.Prelude.{eqb, length, get_or, drop}
use Rattle.std.specs.Bool.{beq}
use Rattle.token_list.specs.Byte.{SPACE, ZERO, ONE, QUOTE}
use Rattle.token_list.specs.Layout.{IDENT, LITERAL, PUNCT, OPEN, CLOSE, text_offset, MAX_TEXT}
use Rattle.token_list.specs.Text.{LF, name, literal, single, punctuation, opening, closing}

-- Lines, each without the LF that ends it, and then what stands after the last LF, which is no line.
pub data Lines : Type 0 where
  tail : List ℕ → Lines
  line : List ℕ → Lines → Lines

abbrev pub front : ℕ → Lines → Lines
front b (tail t) = tail (b ∷ t)
front b (line l ls) = line (b ∷ l) ls

abbrev pub byte : Bool → ℕ → Lines → Lines
byte true b ls = line [] ls
byte false b ls = front b ls

abbrev pub lines : List ℕ → Lines
lines [] = tail []
lines (b ∷ bs) = byte (eqb b LF) b (lines bs)

-- What a line is as a row: a token of kind i, p or l, a group's opening or closing row with its delimiter, or no row.
pub data Form : Type 0 where
  plain : Form
  opens : ℕ → Form
  closed : ℕ → Form
  wrong : Form

abbrev pub first : List ℕ → ℕ
first [] = 0
first (b ∷ bs) = b

-- by the kind and the text
unfoldable pub form_of : ℕ → List ℕ → Form
form_of k t =
    cond (eqb k IDENT) (cond (name t) plain wrong)
    (cond (eqb k LITERAL) (cond (literal t) plain wrong)
    (cond (eqb k PUNCT) (cond (single punctuation t) plain wrong)
    (cond (eqb k OPEN) (cond (single opening t) (opens (first t)) wrong)
    (cond (eqb k CLOSE) (cond (single closing t) (closed (first t)) wrong) wrong))))

-- the same of a text that is not too long
abbrev pub text_form : ℕ → List ℕ → Form
text_form k t = cond (leb (length t) MAX_TEXT) (form_of k t) wrong

-- the mark of a row of kind k: 0, or of punctuation 1
abbrev pub mark_fits : ℕ → ℕ → Bool
mark_fits k j = eqb j ZERO || eqb k PUNCT && eqb j ONE

-- what stands before a text: a kind and a space, and with marks a mark that fits and a space
abbrev pub columns_fit : Bool → List ℕ → Bool
columns_fit m [] = false
columns_fit m (k ∷ []) = false
columns_fit false (k ∷ s ∷ t) = eqb s SPACE
columns_fit true (k ∷ s ∷ []) = false
columns_fit true (k ∷ s ∷ j ∷ []) = false
columns_fit true (k ∷ s ∷ j ∷ u ∷ t) = eqb s SPACE && (mark_fits k j && eqb u SPACE)

-- a line by its kind and its text
abbrev pub form : Bool → List ℕ → Form
form m l = cond (columns_fit m l) (text_form (first l) (drop (text_offset m) l)) wrong

-- `joint`: a punctuation that what comes next follows at once
pub record Row : Type 0 where
  pub kind : ℕ
  pub joint : Bool
  pub text : List ℕ

-- the mark of a row that has no column for it: only `'` is joint
abbrev pub own_mark_lem : ℕ → List ℕ → Bool
own_mark_lem k t = eqb k PUNCT && eqb (first t) QUOTE

-- the mark of a line
abbrev pub mark_of : Bool → List ℕ → Bool
mark_of true l = eqb (get_or l 2 0) ONE
mark_of false l = own_mark_lem (first l) (drop 2 l)

-- the rows that lines hold; of lines that are no rows nothing is said, but that reading ends at one too short for what
-- stands before a text
abbrev pub line_row_lem : Bool → List ℕ → Row
line_row_lem m l = record { kind = first l; joint = mark_of m l; text = drop (text_offset m) l }

abbrev pub row_of : Bool → List ℕ → List Row → List Row
row_of m l rs = cond (leb (text_offset m) (length l)) (line_row_lem m l ∷ rs) []

abbrev pub rows : Bool → Lines → List Row
rows m (tail t) = []
rows m (line l ls) = row_of m l (rows m ls)

-- ## Rows as lines again, and where rows begin, for other statements than `rows` and `form`

-- a mark as its byte
abbrev pub mark_byte : Bool → ℕ
mark_byte true = ONE
mark_byte false = ZERO

-- the column of a mark, where rows have one
abbrev pub mark_column_lem : Bool → Bool → List ℕ
mark_column_lem true j = mark_byte j ∷ SPACE ∷ []
mark_column_lem false j = []

-- rows as the lines of a list
abbrev pub written : Bool → List Row → List ℕ
written m [] = []
written m (r ∷ rs) = r.kind ∷ SPACE ∷ mark_column_lem m r.joint ++ (r.text ++ LF ∷ written m rs)

-- a mark that a row of a list can have
abbrev pub right_mark : Bool → Row → Bool
right_mark true r = not r.joint || eqb r.kind PUNCT
right_mark false r = beq r.joint (own_mark_lem r.kind r.text)

-- how many rows begin: one a line, and one more where bytes stand after the last LF
abbrev pub begun : Lines → ℕ
begun (tail []) = 0
begun (tail (b ∷ bs)) = 1
begun (line l ls) = 1 + begun ls

-- how many bytes stand before row r, counted from row 0
abbrev pub bytes_before : ℕ → Lines → ℕ
bytes_before zero ls = 0
bytes_before (suc r) (tail t) = 0
bytes_before (suc r) (line l ls) = length l + 1 + bytes_before r ls
