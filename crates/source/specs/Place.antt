-- Where a row's text stands in the source, and the line and column of an offset (document 02, card 1).
use Rattle.std.specs.Prelude.{cond, List, [], ◌∷◌, ℕ, zero, suc, ◌+◌, eqb, length, take}
use Rattle.token_list.specs.Byte.{LF}
use Rattle.source.specs.Lex.{Lexed, end, token, stops, lex}

-- so many bytes of a text, from an offset on
pub record Span : Type 0 where
  pub offset : ℕ
  pub length : ℕ

-- the end of a text of n bytes
abbrev pub text_end : ℕ → Span
text_end n = record { offset = n; length = 0 }

-- that of row r of these tokens, in a text of n bytes
abbrev pub span_of : ℕ → ℕ → Lexed → Span
span_of n r end = text_end n
span_of n r (stops offset) = text_end n
span_of n zero (token t ts) = record { offset = t.offset; length = t.length }
span_of n (suc r) (token t ts) = span_of n r ts

-- a doc line's six rows have the line's, a lifetime's two their own; a row that there is not has the text's end
unfoldable pub row_span : List ℕ → ℕ → Span
row_span s r = span_of (length s) r (lex s)

-- ## Line and column of an offset, counted from 1; columns are bytes

-- behind so many lines and columns
abbrev pub line_after : ℕ → List ℕ → ℕ
line_after line [] = line
line_after line (b ∷ bs) = cond (eqb b LF) (line_after (line + 1) bs) (line_after line bs)

abbrev pub column_after : ℕ → List ℕ → ℕ
column_after column [] = column
column_after column (b ∷ bs) = cond (eqb b LF) (column_after 1 bs) (column_after (column + 1) bs)

unfoldable pub line_of : List ℕ → ℕ → ℕ
line_of s offset = line_after 1 (take offset s)

unfoldable pub column_of : List ℕ → ℕ → ℕ
column_of s offset = column_after 1 (take offset s)
