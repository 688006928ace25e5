-- The tokens of a text, in order, each with where it stands (document 02, card 1).
use Rattle.std.specs.Prelude.{false, List, [], ◌∷◌, ◌++◌, ℕ, zero, suc, ◌+◌, ◌-◌}
use lib.ListN.{take, drop}
use Rattle.token_list.specs.Byte.{bytes, HASH, QUOTE, EQUALS, BRACKET}
use Rattle.token_list.specs.Layout.{LITERAL}
use Rattle.token_list.specs.Row.{Row, own_mark_lem}
use Rattle.token_list.specs.Rows.{ident, punct, opening, closing}
use Rattle.source.specs.Bytes.{DOUBLE_QUOTE}
use Rattle.source.specs.Piece.{Piece, gap, row, lifetime, doc, fault, piece}

-- a row, and the bytes of the text where it stands
pub record Token : Type 0 where
  pub row : Row
  pub offset : ℕ
  pub length : ℕ

pub data Lexed : Type 0 where
  end : Lexed
  token : Token → Lexed → Lexed
  -- at this offset stands no token, or one that is postponed
  stops : ℕ → Lexed

-- a row of kind k whose text stands at an offset
abbrev pub row_at : ℕ → ℕ → List ℕ → Token
row_at k offset t = record {
  row = record { kind = k; joint = own_mark_lem k t; text = t };
  offset = offset;
  length = lib.ListN.length t;
}

-- the rows of `#[doc = ".."]`, each where the line stands, of n bytes
abbrev pub doc_rows : ℕ → ℕ → List ℕ → Lexed → Lexed
doc_rows offset n t ts =
    line (punct HASH) (line (opening BRACKET) (line (ident (bytes "doc")) (line (punct EQUALS)
    (line (record { kind = LITERAL; joint = false; text = DOUBLE_QUOTE ∷ t ++ DOUBLE_QUOTE ∷ [] })
    (line (closing BRACKET) ts)))))
  where
    line : Row → Lexed → Lexed
    line r us = token (record { row = r; offset = offset; length = n }) us

-- the tokens of a piece that stands at an offset; go answers for what is behind its bytes
abbrev pub found : ℕ → List ℕ → Piece → (ℕ → Lexed) → Lexed
found at s (gap n) go = go n
found at s (row k n) go = token (row_at k at (take n s)) (go n)
found at s (lifetime n) go =
    token (record { row = punct QUOTE; offset = at; length = 1 })
    (token (record { row = ident (take (n - 1) (drop 1 s)); offset = at + 1; length = n - 1 }) (go n))
found at s (doc n) go = doc_rows at n (take (n - 3) (drop 3 s)) (go n)
found at s fault go = stops at

-- from an offset on; the first `skip` bytes are passed over
abbrev pub lex_from : ℕ → ℕ → List ℕ → Lexed
lex_from at skip [] = end
lex_from at (suc skip) (b ∷ bs) = lex_from (at + 1) skip bs
lex_from at zero (b ∷ bs) = found at (b ∷ bs) (piece (b ∷ bs)) (λ n. lex_from (at + 1) (n - 1) bs)

unfoldable pub lex : List ℕ → Lexed
lex s = lex_from 0 0 s
