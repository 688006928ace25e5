-- Added names: two texts, lifetimes and types, each name a line (document 01, refusal 30).
use Rattle.std.specs.Prelude.{Bool, true, false, cond, ◌&&◌, List, [], ◌∷◌, ◌++◌, ℕ, leb, eqb, length}
use Rattle.token_list.specs.Layout.{MAX_TEXT}
use Rattle.token_list.specs.Byte.{LF, QUOTE}
use Rattle.token_list.specs.Text.{plain_name, member}
use Rattle.token_list.specs.Row.{Lines, tail, line, lines}

-- a last line without LF is a name too; an empty line is an empty name
abbrev pub line_names : Lines → List (List ℕ)
line_names (tail []) = []
line_names (tail (b ∷ bs)) = (b ∷ bs) ∷ []
line_names (line l ls) = l ∷ line_names ls

-- an empty text is no name
abbrev pub names_of : List ℕ → List (List ℕ)
names_of t = line_names (lines t)

-- an `i` text of at most 255 bytes without `r#`
abbrev pub right_name : List ℕ → Bool
right_name t = plain_name t && leb (length t) MAX_TEXT

abbrev pub right_names : List (List ℕ) → Bool
right_names [] = true
right_names (t ∷ ts) = right_name t && right_names ts

-- ## Names as a program's arguments

-- a name as a line; an empty line stands for one that would be two
abbrev pub name_line : List ℕ → List ℕ
name_line n = cond (member LF n) (LF ∷ []) (n ++ LF ∷ [])

-- whether an argument is a lifetime: it begins with `'`
abbrev pub quoted : List ℕ → Bool
quoted [] = false
quoted (b ∷ bs) = eqb b QUOTE
