-- The streams of rows (document 01, "The token list": a group inside a group is followed down one level at a time).
-- Every list of rows has its streams: one that is never closed ends with the list, and a closing row too many ends its
-- stream.
use Rattle.std.specs.Prelude.{Bool, true, false, cond, ◌&&◌, List, [], ◌∷◌, ℕ, ◌+◌, eqb, drop}
use Rattle.token_list.specs.Layout.{PUNCT, OPEN, CLOSE, marked, first_row}
use Rattle.token_list.specs.Row.{Row, rows, lines, first, bytes_before}

-- What is left of a stream: nothing; a token and the rest; a group with its delimiter, its inside and the rest after
-- its close.
pub data Trees : Type 0 where
  end : Trees
  leaf : Row → Trees → Trees
  group : ℕ → Trees → Trees → Trees

-- The stream that a row stands in, from that row on, and the streams around it, each from past the group's close,
-- innermost first.
pub record Streams : Type 0 where
  pub here : Trees
  pub outer : List Trees

abbrev pub head : List Trees → Trees
head [] = end
head (t ∷ ts) = t

abbrev pub others : List Trees → List Trees
others [] = []
others (t ∷ ts) = ts

unfoldable pub before : Row → Streams → Streams
before r s =
    cond (eqb r.kind OPEN)
    (record { here = group (first r.text) s.here (head s.outer); outer = others s.outer })
    (cond (eqb r.kind CLOSE) (record { here = end; outer = s.here ∷ s.outer })
    (record { here = leaf r s.here; outer = s.outer }))

abbrev pub streams : List Row → Streams
streams [] = record { here = end; outer = [] }
streams (r ∷ rs) = before r (streams rs)

-- how many rows a stream has, with those of its groups
abbrev pub size : Trees → ℕ
size end = 0
size (leaf r ts) = 1 + size ts
size (group d ts us) = 1 + size ts + 1 + size us

-- the rows and the streams at an offset of a list
abbrev pub rows_at : List ℕ → ℕ → List Row
rows_at s i = rows (marked s) (lines (drop i s))

unfoldable pub at : List ℕ → ℕ → Streams
at s i = streams (rows_at s i)

-- ## What a look at a stream tells, whether groups are closed, and where a row starts, for other statements

-- the kind of a stream's first row, and the first byte of its text; 0 where it has none
abbrev pub first_kind_lem : Trees → ℕ
first_kind_lem end = 0
first_kind_lem (leaf r ts) = r.kind
first_kind_lem (group d ts us) = OPEN

abbrev pub first_byte_lem : Trees → ℕ
first_byte_lem end = 0
first_byte_lem (leaf r ts) = first r.text
first_byte_lem (group d ts us) = d

-- whether a stream begins with the punctuation b
abbrev pub starts_punct : ℕ → Trees → Bool
starts_punct b ts = eqb (first_kind_lem ts) PUNCT && eqb (first_byte_lem ts) b

-- every group that opens in the rows is closed in them
abbrev pub follows : List Trees → Bool
follows [] = false
follows (t ∷ ts) = true

abbrev pub all_closed : List Row → Bool
all_closed [] = true
all_closed (r ∷ rs) = all_closed rs && cond (eqb r.kind OPEN) (follows (streams rs).outer) true

-- where row r of a list starts, after the line of names
unfoldable pub row_start : List ℕ → ℕ → ℕ
row_start s r = first_row s + bytes_before r (lines (drop (first_row s) s))
