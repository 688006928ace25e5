-- What ties the code's answers to the meaning.
use Rattle.std.specs.Prelude.{◌≡◌, Bool, List, ℕ, ◌+◌, ◌-◌, ◌≤◌, ◌<◌, Option, Some, None, length, get_or, drop}
use Rattle.std.proofs.Math.Seq.{slice}
use Rattle.token_list.specs.Byte.{QUOTE}
use Rattle.token_list.specs.Text.{name_part}
use Rattle.token_list.specs.Rows.{ident, punct}
use Rattle.source.specs.Bytes.{SLASH, blank, in_line, in_doc, in_digits}
use Rattle.source.specs.Taken.{Taken, takes, fault, run}
use Rattle.source.specs.Number.{radix_of, fraction, sign_length}
use Rattle.source.specs.Piece as piece
use Rattle.source.specs.Lex.{Lexed, stops, token, row_at, doc_rows}
use Rattle.source.specs.Piece.{suffix}
use Rattle.source.specs.declared.bytes.Class.{Class}
use Rattle.source.specs.declared.bytes.Class.TheVariants.{Blank, Name, Line, Doc, Digits}
use Rattle.source.specs.declared.piece.Piece.{Piece}
use Rattle.source.specs.declared.piece.Piece.TheVariants as pieces

abbrev pub in_class : Class → ℕ → Bool
in_class Blank = blank
in_class Name = name_part
in_class Line = in_line
in_class Doc = in_doc
in_class (Digits radix) = in_digits radix

-- the bytes that pass a test, from `from` on, end at r
pub record RunEnd (p : ℕ → Bool) (s : List ℕ) (from r : ℕ) : Type 0 where
  pub told : r ≡ from + run p (drop from s)
  pub within : from ≤ length s → r ≤ length s

-- what a production that stands at i takes ends at e
pub record EndsTo (s : List ℕ) (i : ℕ) (t : Taken) (e : ℕ) : Type 0 where
  pub taken : t ≡ takes (e - i)
  pub forth : i < e
  pub within : e ≤ length s

pub data EndsAs (s : List ℕ) (i : ℕ) (t : Taken) : Option ℕ → Type 0 where
  ends : {e : ℕ} → EndsTo s i t e → EndsAs s i t (Some e)
  none : t ≡ fault → EndsAs s i t None

-- what a byte tells behind a first 0: its radix, or none
abbrev pub RadixAs : ℕ → Option ℕ → Type 0
RadixAs b (Some r) = (r ≡ radix_of b) × (r ≡ 0 → ⊥)
RadixAs b None = radix_of b ≡ 0

-- no `/` stands from i up to e
abbrev pub NoSlash : List ℕ → ℕ → ℕ → Type 0
NoSlash s i e = (k : ℕ) → k < e → i ≤ k → get_or s k 0 ≡ SLASH → ⊥

-- inside a block comment none begins and none ends with the bytes from i up to r: no `/` is among them or behind them
pub record PlainEnd (s : List ℕ) (i r : ℕ) : Type 0 where
  pub forth : i ≤ r
  pub within : r ≤ length s
  pub plain : i < r → NoSlash s i (r + 1)

-- digits that stand at i, with their fraction, end at r
pub record FractionEnd (s : List ℕ) (i r : ℕ) : Type 0 where
  pub told : r ≡ i + fraction (run (in_digits 10) (drop i s)) (drop i s)
  pub within : r ≤ length s

-- a sign that may stand at i ends at r
pub record SignEnd (s : List ℕ) (i r : ℕ) : Type 0 where
  pub told : r ≡ i + sign_length (get_or s i 0)
  pub within : r ≤ length s

-- a suffix that may stand at i ends at r
pub record SuffixEnd (s : List ℕ) (i r : ℕ) : Type 0 where
  pub told : r ≡ i + suffix (drop i s)
  pub within : i ≤ length s → r ≤ length s

-- the piece that stands at i is this one, and ends at e
pub record PieceTo (s : List ℕ) (i : ℕ) (t u : piece.Piece) (e : ℕ) : Type 0 where
  pub told : t ≡ u
  pub forth : i < e
  pub within : e ≤ length s

-- or none does
pub data PieceAs (s : List ℕ) (i : ℕ) (t : piece.Piece) : Option Piece → Type 0 where
  gap : {e : ℕ} → PieceTo s i t (piece.gap (e - i)) e → PieceAs s i t (Some (pieces.Gap e))
  row : {k e : ℕ} → PieceTo s i t (piece.row k (e - i)) e → PieceAs s i t (Some (pieces.Row k e))
  lifetime : {e : ℕ} → PieceTo s i t (piece.lifetime (e - i)) e → PieceAs s i t (Some (pieces.Lifetime e))
  doc : {e : ℕ} → PieceTo s i t (piece.doc (e - i)) e → i + 3 ≤ e → PieceAs s i t (Some (pieces.Doc e))
  none : t ≡ piece.fault → PieceAs s i t None

-- ## Tokens

-- the tokens of the piece that stands at i, before others
abbrev pub piece_tokens : List ℕ → ℕ → Piece → Lexed → Lexed
piece_tokens s i (pieces.Gap e) ts = ts
piece_tokens s i (pieces.Row k e) ts = token (row_at k i (slice i e s)) ts
piece_tokens s i (pieces.Lifetime e) ts =
    token (record { row = punct QUOTE; offset = i; length = 1 })
    (token (record { row = ident (slice (i + 1) e s); offset = i + 1; length = e - (i + 1) }) ts)
piece_tokens s i (pieces.Doc e) ts = doc_rows i (e - i) (slice (i + 3) e s) ts

-- the same of what was found at i: a piece, or that there is none
abbrev pub found_tokens : List ℕ → ℕ → Option Piece → Lexed → Lexed
found_tokens s i None ts = stops i
found_tokens s i (Some p) ts = piece_tokens s i p ts

-- where a piece ends
abbrev pub piece_end : Piece → ℕ
piece_end (pieces.Gap e) = e
piece_end (pieces.Row k e) = e
piece_end (pieces.Lifetime e) = e
piece_end (pieces.Doc e) = e

-- where what was found ends; behind a fault nothing is read
abbrev pub found_end : List ℕ → Option Piece → ℕ
found_end s None = length s
found_end s (Some p) = piece_end p
