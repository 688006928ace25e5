-- What ties places of rows to the meaning.
use Rattle.std.specs.Prelude.{◌≡◌, List, ℕ, zero, suc, ◌+◌, ◌-◌}
use Rattle.source.specs.Place.{Span, line_of, column_of}
use Rattle.source.specs.declared.piece.Piece.{Piece}
use Rattle.source.specs.declared.piece.Piece.TheVariants as pieces
use Rattle.source.specs.declared.places.Place as code
use Rattle.source.specs.declared.places.Position.{Position}

abbrev pub span_at : code.Place → Span
span_at p = record { offset = p.offset; length = p.length }

-- how many rows a piece has
abbrev pub row_count : Piece → ℕ
row_count (pieces.Gap e) = 0
row_count (pieces.Row k e) = 1
row_count (pieces.Lifetime e) = 2
row_count (pieces.Doc e) = 6

-- where row n of the piece at i stands
abbrev pub span_in : ℕ → Piece → ℕ → Span
span_in i (pieces.Gap e) n = record { offset = i; length = e - i }
span_in i (pieces.Row k e) n = record { offset = i; length = e - i }
span_in i (pieces.Lifetime e) zero = record { offset = i; length = 1 }
span_in i (pieces.Lifetime e) (suc n) = record { offset = i + 1; length = e - (i + 1) }
span_in i (pieces.Doc e) n = record { offset = i; length = e - i }

pub record LineColumn (s : List ℕ) (offset : ℕ) (r : Position) : Type 0 where
  pub line : r.line ≡ line_of s offset
  pub column : r.column ≡ column_of s offset
