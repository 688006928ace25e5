-- Keywords and identifiers of the edition 2021 (Rust Reference 1.63, "Keywords" and "Identifiers"). Weak keywords, as
-- `union`, may be names and are not here; `'static` is one, but no lifetime is named so, since `static` is strict.
use Rattle.std.specs.Prelude.{Bool, false, not, ◌||◌, List, [], ◌∷◌, ℕ}
use Prim.Native.String.{String}
use Rattle.token_list.specs.Byte.{bytes}
use Rattle.token_list.specs.Text.{same}

-- strict keywords; in the last line those of 2018 and later
abbrev pub strict : List String
strict =
    "as" ∷ "break" ∷ "const" ∷ "continue" ∷ "crate" ∷ "else" ∷ "enum" ∷ "extern" ∷ "false" ∷ "fn" ∷ "for" ∷ "if"
    ∷ "impl" ∷ "in" ∷ "let" ∷ "loop" ∷ "match" ∷ "mod" ∷ "move" ∷ "mut" ∷ "pub" ∷ "ref" ∷ "return" ∷ "self" ∷ "Self"
    ∷ "static" ∷ "struct" ∷ "super" ∷ "trait" ∷ "true" ∷ "type" ∷ "unsafe" ∷ "use" ∷ "where" ∷ "while"
    ∷ "async" ∷ "await" ∷ "dyn" ∷ []

-- reserved keywords; in the last line that of 2018 and later
abbrev pub reserved : List String
reserved =
    "abstract" ∷ "become" ∷ "box" ∷ "do" ∷ "final" ∷ "macro" ∷ "override" ∷ "priv" ∷ "typeof" ∷ "unsized" ∷ "virtual"
    ∷ "yield"
    ∷ "try" ∷ []

-- the text is one of the words
abbrev pub one_of : List String → List ℕ → Bool
one_of [] t = false
one_of (w ∷ ws) t = same t (bytes w) || one_of ws t

unfoldable pub keyword : List ℕ → Bool
keyword t = one_of strict t || one_of reserved t

-- IDENTIFIER, of an `i` row's text: no keyword, and not `_`. A raw one, as `r#fn`, is no keyword.
abbrev pub identifier : List ℕ → Bool
identifier t = not (keyword t || same t (bytes "_"))
