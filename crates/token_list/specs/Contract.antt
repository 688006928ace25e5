-- What ties the code's answers to the meaning.
use Rattle.std.specs.Prelude.{◌≡◌, Bool, true, false, cond, ◌&&◌, List, [], ◌∷◌, ℕ, ◌+◌, ◌-◌, ◌≤◌, ◌<◌, ltb, eqb}
use Rattle.std.specs.Prelude.{length, get_or, take, drop, Option, Some, None, IfSome, Result, Ok, Err}
use Rattle.std.proofs.Math.Seq.{slice}
use Rattle.token_list.specs.Byte.{LF, SPACE}
use Rattle.token_list.specs.Layout.{PUNCT, OPEN, CLOSE, names, marked, first_row, text_offset, MAX_TEXT, MAX_DEPTH}
use Rattle.token_list.specs.Row.{Lines, tail, line, lines, Form, plain, opens, closed, wrong, form, text_form}
use Rattle.token_list.specs.Row.{mark_fits, mark_of, first, Row, written}
use Rattle.token_list.specs.Check.{Answer, passed, refused, Open, ended, close, walk, check, all_right}
use Rattle.token_list.specs.Check.{nested}
use Rattle.token_list.specs.Place.{OneRefusal, check_number}
use Rattle.token_list.specs.declared.check.Cursor.{Cursor}
use Rattle.token_list.specs.declared.check.Refusal.{Refusal}
use Rattle.token_list.specs.declared.check.LevelEnd.{LevelEnd}
use Rattle.token_list.specs.declared.check.LevelEnd.TheVariants.{End, Close}
use Rattle.token_list.specs.Stream.{Trees, end, leaf, group, size, first_kind_lem, first_byte_lem, all_closed}
use Rattle.token_list.specs.Stream.{rows_at, at, row_start}
use Rattle.token_list.specs.declared.stream.Token.{Token}
use Rattle.token_list.specs.declared.stream.Glance.{Glance}
use Rattle.token_list.specs.declared.stream.Peeked.{Peeked}
use Rattle.token_list.specs.declared.stream.Peeked.TheVariants.{Nothing, Leaf, Group}
use Rattle.token_list.specs.declared.row.Shape.{Shape}
use Rattle.token_list.specs.declared.row.Shape.TheVariants.{Plain, Opens, Closed}
use Rattle.token_list.specs.declared.row.Line.{Line}
use Rattle.token_list.specs.declared.text.Compared.{Compared}
use Rattle.token_list.specs.Text.{all, name_part, printable, same}
use Rattle.token_list.specs.Pairs.{pairs}

-- what may stand in a name, or else in a literal
abbrev pub in_text : Bool → ℕ → Bool
in_text true b = name_part b
in_text false b = printable b

-- from `from` on each byte before r may stand in a name, or else in a literal, and the byte at r may not; a line ends
-- there where it is an LF
pub record TextEnd (s : List ℕ) (names : Bool) (from r : ℕ) : Type 0 where
  pub start : from ≤ r
  pub fits : all (in_text names) (slice from r s) ≡ true
  pub stops : r < length s → in_text names (get_or s r 0) ≡ false
  pub line : r < length s → get_or s r 0 ≡ LF → lines (drop from s) ≡ line (slice from r s) (lines (drop (r + 1) s))

-- two texts compared
pub record ComparedAs (a b : List ℕ) (r : Compared) : Type 0 where
  pub same : r.same ≡ same a b
  pub pairs : r.pairs ≡ pairs a b

-- the first LF of a list s at or after `from` stands at e, or there is none
pub record LineEnd (s : List ℕ) (from e : ℕ) : Type 0 where
  pub start : from ≤ e
  pub found : e < length s → lines (drop from s) ≡ line (slice from e s) (lines (drop (e + 1) s))
  pub none : length s ≤ e → lines (drop from s) ≡ tail (drop from s)
  pub lf : e < length s → get_or s e 0 ≡ LF

abbrev pub shape : Shape → Form
shape Plain = plain
shape (Opens d) = opens d
shape (Closed d) = closed d

-- none is no row
abbrev pub shape_form : Option Shape → Form
shape_form None = wrong
shape_form (Some x) = shape x

abbrev pub line_form : Option Line → Form
line_form None = wrong
line_form (Some l) = shape l.shape

-- a token, by where the line after it starts
abbrev pub token : Option ℕ → Option Line
token None = None
token (Some n) = Some (record { shape = Plain; next = n })

-- a space behind the byte at i
abbrev pub spaced : List ℕ → ℕ → Bool
spaced s i = ltb (i + 1) (length s) && eqb (get_or s (i + 1) 0) SPACE

-- a space and one byte of text behind the byte at i
abbrev pub one_byte_lem : List ℕ → ℕ → Bool
one_byte_lem s i = ltb (i + 3) (length s) && (eqb (get_or s (i + 1) 0) SPACE && eqb (get_or s (i + 3) 0) LF)

-- a kind, a space and a mark that fits at i, before another byte
abbrev pub mark_stands_lem : List ℕ → ℕ → Bool
mark_stands_lem s i =
    ltb (i + 3) (length s) && (eqb (get_or s (i + 1) 0) SPACE && mark_fits (get_or s i 0) (get_or s (i + 2) 0))

-- the first line as a row, where it has an end
abbrev pub formed : (List ℕ → Form) → Lines → Form
formed f (tail t) = wrong
formed f (line l ls) = f l

-- the row of s at `at`, of the form that f says, and the next line; none where f says that there is no row
pub record Shaped (f : List ℕ → Form) (s : List ℕ) (at : ℕ) (r : Option Line) : Type 0 where
  pub right : line_form r ≡ formed f (lines (drop at s))
  pub past : IfSome r (λ x. (at < x.next) × (x.next ≤ length s))
  pub rest : IfSome r (λ x. (l : List ℕ) × (lines (drop at s) ≡ line l (lines (drop x.next s))))

-- the text from `start` on ends with the line before n, and fits but for its first byte
pub record TokenEnd (s : List ℕ) (names : Bool) (start n : ℕ) : Type 0 where
  pub end : ℕ
  pub text : TextEnd s names (start + 1) end
  pub within : end < length s
  pub lf : get_or s end 0 ≡ LF
  pub short : end - start ≤ MAX_TEXT
  pub next : n ≡ end + 1

-- a row with marks or without, and the text alone of a row of kind k
abbrev pub RowShaped : Bool → List ℕ → ℕ → Option Line → Type 0
RowShaped m = Shaped (form m)

abbrev pub TextShaped : ℕ → List ℕ → ℕ → Option Line → Type 0
TextShaped k = Shaped (text_form k)

-- a row of kind k whose last column before its text is at i: by its text, which a space parts from it
pub record ColumnShaped (k : ℕ) (s : List ℕ) (i : ℕ) (r : Option Line) : Type 0 where
  pub text : spaced s i ≡ true → TextShaped k s (i + 2) r
  pub none : spaced s i ≡ false → line_form r ≡ wrong

-- the bytes from i on are rows, each of a right form, and each group that opens in them is closed
pub record RightRows (s : List ℕ) (i : ℕ) : Type 0 where
  pub written : drop i s ≡ written (marked s) (rows_at s i)
  pub right : all_right (marked s) (rows_at s i) ≡ true
  pub closed : all_closed (rows_at s i) ≡ true

-- a cursor of the list: its offset is where its row starts, the rows before it have a byte each, and rows stand from it
-- on
pub record InList (s : List ℕ) (c : Cursor) : Type 0 where
  pub starts : c.at ≡ row_start s c.row
  pub counted : c.row ≤ c.at
  pub within : c.at ≤ length s
  pub right_rows : RightRows s c.at

-- ## Rows and streams at a cursor

-- the row that a token stands for
abbrev pub row_of : List ℕ → Token → Row
row_of s t = record { kind = t.kind; joint = t.joint; text = slice t.start t.end s }

-- the row at i ends with the LF at e, after a text of a byte or more
pub record RowEnd (s : List ℕ) (i e : ℕ) : Type 0 where
  pub line : LineEnd s i e
  pub text : i + text_offset (marked s) < e
  pub long : i + 3 ≤ e
  pub within : e < length s

-- the token t at i: its mark, where its parts stand, its byte, if it is punctuation or opens a group, and the next row
pub record TokenAt (s : List ℕ) (i : ℕ) (t : Token) : Type 0 where
  pub kind : t.kind ≡ get_or s i 0
  pub joint : t.joint ≡ mark_of (marked s) (drop i s)
  pub start : t.start ≡ i + text_offset (marked s)
  pub end : RowEnd s i t.end
  pub text : t.start ≤ t.end
  pub next : t.next ≡ t.end + 1
  pub within : t.next ≤ length s
  pub byte : t.kind ≡ PUNCT → t.byte ≡ first (slice t.start t.end s)
  pub delimiter : t.kind ≡ OPEN → t.byte ≡ first (slice t.start t.end s)
  pub right_rows : RightRows s t.next

-- a token that is no group, and the stream after it
pub record LeafAt (s : List ℕ) (i : ℕ) (t : Token) : Type 0 where
  pub token : TokenAt s i t
  pub here : (at s i).here ≡ leaf (row_of s t) (at s t.next).here
  pub outer : (at s i).outer ≡ (at s t.next).outer

-- a group's opening row, with its inside and what stands after it
pub record GroupAt (s : List ℕ) (i : ℕ) (t : Token) : Type 0 where
  pub token : TokenAt s i t
  pub after : Trees
  pub here : (at s i).here ≡ group t.byte (at s t.next).here after
  pub outer : (at s t.next).outer ≡ after ∷ (at s i).outer

abbrev pub stands : List ℕ → ℕ → Peeked → Type 0
stands s i Nothing = (at s i).here ≡ end
stands s i (Leaf t) = LeafAt s i t
stands s i (Group t) = GroupAt s i t

-- what a look at i tells; no row has the kind 0
pub record Looked (s : List ℕ) (i : ℕ) (r : Glance) : Type 0 where
  pub kind : r.kind ≡ first_kind_lem (at s i).here
  pub first : r.first ≡ first_byte_lem (at s i).here
  pub none : r.kind ≡ 0 → (at s i).here ≡ end

-- how many groups are open after a row of kind k, where d were before it
abbrev pub deeper : ℕ → ℕ → ℕ
deeper k d = cond (eqb k OPEN) (d + 1) (cond (eqb k CLOSE) (d - 1) d)

-- from c to d, past the closing row of the group that c stands in
pub record Skipped (s : List ℕ) (c d : Cursor) : Type 0 where
  pub in_list : InList s d
  pub forth : c.at + size (at s c.at).here + 1 ≤ d.at
  pub row : d.row ≡ c.row + size (at s c.at).here + 1
  pub streams : (at s c.at).outer ≡ (at s d.at).here ∷ (at s d.at).outer

-- from c, which stands in no group, to d, where the rows end
pub record RanOut (s : List ℕ) (c d : Cursor) : Type 0 where
  pub in_list : InList s d
  pub forth : c.at + size (at s c.at).here ≤ d.at
  pub row : d.row ≡ c.row + size (at s c.at).here
  pub here : (at s d.at).here ≡ end
  pub outer : (at s d.at).outer ≡ []

-- by the streams around c
abbrev pub skipped : List Trees → List ℕ → Cursor → Cursor → Type 0
skipped [] s c d = RanOut s c d
skipped (t ∷ ts) s c d = Skipped s c d

abbrev pub checked : Result ℕ Refusal → Answer
checked (Ok n) = passed n
checked (Err r) = refused r.number r.place

-- the list check's whole answer, and what holds of a refusal
pub record CheckedAs (s : List ℕ) (r : Result ℕ Refusal) : Type 0 where
  pub answer : checked r ≡ check s
  pub refusal : (n p : ℕ) → checked r ≡ refused n p → OneRefusal check_number s n p

-- the first row of a list
abbrev pub start_of : List ℕ → Cursor
start_of s = record { at = first_row s; row = 0 }

-- where the list check stands
pub record Within (s : List ℕ) (c : Cursor) : Type 0 where
  pub counted : c.row ≤ c.at
  pub within : c.at ≤ length s

-- what the check answers from a cursor on, with marks or without, under the open groups gs, where the rows of the
-- level end as r says
abbrev pub resumed : Bool → List ℕ → List Open → Result LevelEnd Refusal → Answer
resumed m s gs (Ok (End n)) = ended n gs
resumed m s gs (Ok (Close d row next)) = close row d gs (λ hs. walk m (row + 1) hs (lines (drop next s)))
resumed m s gs (Err r) = refused r.number r.place

-- the rows after the closing one
abbrev pub closed_in : List ℕ → ℕ → Result LevelEnd Refusal → Type 0
closed_in s at (Ok (End n)) = Unit
closed_in s at (Ok (Close d row next)) = (row < next) × (at < next) × (next ≤ length s)
closed_in s at (Err r) = Unit

-- how the rows of a level from c on end, `levels` of MAX_DEPTH being free
pub record Walked (m : Bool) (s : List ℕ) (c : Cursor) (levels : ℕ) (r : Result LevelEnd Refusal) : Type 0 where
  pub right : (gs : List Open) → length gs + levels ≡ MAX_DEPTH
      → walk m c.row gs (lines (drop c.at s)) ≡ resumed m s gs r
  pub past : closed_in s c.at r

-- A list that passes the check with n rows: its line of names, then the lines of its rows, which nest; no group is open
-- at its first row, and each that opens is closed.
pub record PassedList (s : List ℕ) (n : ℕ) : Type 0 where
  pub names : take (first_row s) s ≡ names (marked s)
  pub written : drop (first_row s) s ≡ written (marked s) (rows_at s (first_row s))
  pub nested : nested (marked s) [] (rows_at s (first_row s)) ≡ true
  pub count : length (rows_at s (first_row s)) ≡ n
  pub right_rows : RightRows s (first_row s)
  pub outer : (at s (first_row s)).outer ≡ []
  pub size : size (at s (first_row s)).here ≡ n
