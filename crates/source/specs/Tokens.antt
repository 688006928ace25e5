-- What ties the writer of token lists to the meaning.
use Rattle.std.specs.Prelude.{◌≡◌, false, cond, ◌&&◌, ◌||◌, List, [], ◌∷◌, ◌++◌, ℕ, ◌+◌, ◌-◌, ◌≤◌, leb, ltb, eqb}
use Rattle.std.specs.Prelude.{Option, Some, None, Result, Ok, Err, length, take}
use Rattle.std.proofs.Math.Seq.{slice}
use Rattle.token_list.specs.Byte.{bytes, HASH, EQUALS, BRACKET}
use Rattle.token_list.specs.Layout.{LITERAL, OPEN, CLOSE, names, MAX_BYTES, MAX_ROWS, MAX_TEXT, MAX_DEPTH}
use Rattle.token_list.specs.Row.{Row}
use Rattle.token_list.specs.Rows.{ident, punct, opening, closing, lifetime_rows, list_of}
use Rattle.token_list.specs.Check.{END}
use Rattle.source.specs.Bytes.{DOUBLE_QUOTE}
use Rattle.source.specs.Lex.{row_at, lex}
use Rattle.source.specs.Brackets.{sound, faulty, brackets}
use Rattle.source.specs.Answer.{Answer, wrote, fault_at, refused, rows_of, output}
use Rattle.source.specs.declared.piece.Piece.{Piece}
use Rattle.source.specs.declared.piece.Piece.TheVariants as pieces
use Rattle.source.specs.declared.tokens.Size.{Size}
use Rattle.source.specs.declared.tokens.SourceError.{SourceError}
use Rattle.source.specs.declared.tokens.SourceError.TheVariants as errors

-- ## Rows

-- the rows of a doc line with this text
abbrev pub doc_line_rows : List ℕ → List Row
doc_line_rows t =
    punct HASH ∷ opening BRACKET ∷ ident (bytes "doc") ∷ punct EQUALS
    ∷ record { kind = LITERAL; joint = false; text = DOUBLE_QUOTE ∷ t ++ DOUBLE_QUOTE ∷ [] } ∷ closing BRACKET ∷ []

-- those of the piece that stands at i
abbrev pub piece_rows : List ℕ → ℕ → Piece → List Row
piece_rows s i (pieces.Gap e) = []
piece_rows s i (pieces.Row k e) = (row_at k i (slice i e s)).row ∷ []
piece_rows s i (pieces.Lifetime e) = lifetime_rows (slice (i + 1) e s)
piece_rows s i (pieces.Doc e) = doc_line_rows (slice (i + 3) e s)

-- ## How much of a list there is

-- the groups that are open behind a row of kind k
abbrev pub depth_after : ℕ → ℕ → ℕ
depth_after k d = cond (eqb k OPEN) (d + 1) (cond (eqb k CLOSE) (d - 1) d)

-- a row more, of kind k with a text of n bytes; none where the list passes a limit
abbrev pub row_more : Option Size → ℕ → ℕ → Option Size
row_more None k n = None
row_more (Some z) k n =
    cond (ltb MAX_TEXT n || leb MAX_ROWS z.rows) None
    (cond (ltb MAX_BYTES (z.bytes + n + 3)) None
    (cond (eqb k OPEN && leb MAX_DEPTH z.depth) None
    (Some (record { rows = z.rows + 1; bytes = z.bytes + n + 3; depth = depth_after k z.depth }))))

abbrev pub rows_more_lem : Option Size → List Row → Option Size
rows_more_lem m [] = m
rows_more_lem m (r ∷ rs) = rows_more_lem (row_more m r.kind (length r.text)) rs

-- a list without rows: its line of names
abbrev pub NO_ROWS : Option Size
NO_ROWS = Some (record { rows = 0; bytes = length (names false); depth = 0 })

-- ## One round over a text

-- the text s has no fault, its list is so much, and stands at the start of x where that is long enough
pub record Listed (s x : List ℕ) (m : Option Size) : Type 0 where
  pub matched : brackets [] (lex s) ≡ sound
  pub measured : m ≡ rows_more_lem NO_ROWS (rows_of (lex s))
  pub list : length (list_of false (rows_of (lex s))) ≤ length x
      → take (length (list_of false (rows_of (lex s)))) x ≡ list_of false (rows_of (lex s))

pub data ScannedAs (s x : List ℕ) : Result (Option Size) ℕ → Type 0 where
  fault : {i : ℕ} → brackets [] (lex s) ≡ faulty i → ScannedAs s x (Err i)
  listed : {m : Option Size} → Listed s x m → ScannedAs s x (Ok m)

-- n bytes are enough for the list that was measured
abbrev pub Enough : Option Size → ℕ → Type 0
Enough None n = Unit
Enough (Some z) n = z.bytes ≤ n

abbrev pub Fitted : Result (Option Size) ℕ → ℕ → Type 0
Fitted (Err i) n = Unit
Fitted (Ok m) n = Enough m n

-- what was found, with the list in x
abbrev pub found_list_lem : List ℕ → Option Size → Answer
found_list_lem x None = refused 41 END
found_list_lem x (Some z) = wrote (take z.bytes x)

abbrev pub found_of : List ℕ → Result (Option Size) ℕ → Answer
found_of x (Err i) = fault_at i
found_of x (Ok m) = found_list_lem x m

-- ## The answer

-- what an answer says, of the output x
abbrev pub answer_of : List ℕ → Result ℕ SourceError → Answer
answer_of x (Ok n) = wrote (take n x)
answer_of x (Err (errors.FaultAt offset)) = fault_at offset
answer_of x (Err (errors.Refused r)) = refused r.number r.place

abbrev pub within : List ℕ → Result ℕ SourceError → Type 0
within x (Ok n) = n ≤ length x
within x (Err e) = Unit

-- the output was `before` and is `after`
pub record TokensAs (before after : List ℕ) (a : Answer) (r : Result ℕ SourceError) : Type 0 where
  pub room : within after r
  pub answer : answer_of after r ≡ a
  pub output : after ≡ output before a
