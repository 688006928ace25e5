-- Tokens as the rows that writers add, and rows as a list (document 01, "The token list"; document 02, card 6).
use Rattle.std.specs.Prelude.{Bool, false, List, [], ◌∷◌, ◌++◌, ℕ, eqb}
use Rattle.token_list.specs.Byte.{QUOTE}
use Rattle.token_list.specs.Layout.{IDENT, PUNCT, OPEN, CLOSE, names}
use Rattle.token_list.specs.Text.{closer}
use Rattle.token_list.specs.Row.{Row, written}

-- ## What writers add

abbrev pub ident : List ℕ → Row
ident t = record { kind = IDENT; joint = false; text = t }

-- joint where it is a `'`
abbrev pub punct : ℕ → Row
punct b = record { kind = PUNCT; joint = eqb b QUOTE; text = b ∷ [] }

abbrev pub opening : ℕ → Row
opening d = record { kind = OPEN; joint = false; text = d ∷ [] }

abbrev pub closing : ℕ → Row
closing d = record { kind = CLOSE; joint = false; text = closer d ∷ [] }

-- `'` and the name
abbrev pub lifetime_rows : List ℕ → List Row
lifetime_rows t = punct QUOTE ∷ ident t ∷ []

-- ## Rows as the bytes of a list, with marks or without

-- the line of names, then the rows
abbrev pub list_of : Bool → List Row → List ℕ
list_of m rs = names m ++ written m rs
