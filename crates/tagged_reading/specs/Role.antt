-- The roles of a tagged attribute's rows (document 01, module 6).
use Rattle.std.specs.Prelude.{Bool, List, ℕ, replicate}
use Rattle.token_list.specs.Text.{between}

abbrev pub tag : ℕ
tag = 20

abbrev pub key : ℕ
key = 21

abbrev pub value : ℕ
value = 22

-- any other row
abbrev pub other : ℕ
other = 23

-- so many other rows
abbrev pub others : ℕ → List ℕ
others n = replicate n other

-- one of the four
abbrev pub is_role : ℕ → Bool
is_role r = between tag other r
