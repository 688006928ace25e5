-- How many pairs of bytes are looked at where two texts are compared (document 02, card 3).
use Rattle.std.specs.Prelude.{Bool, cond, not, ◌==◌, List, [], ◌∷◌, reverse, ℕ, ◌+◌, eqb, length}

-- those up to the first unequal one, with it, or all
abbrev pub until_unequal : List ℕ → List ℕ → ℕ
until_unequal [] ys = 0
until_unequal (x ∷ xs) [] = 0
until_unequal (x ∷ xs) (y ∷ ys) = cond (eqb x y) (1 + until_unequal xs ys) 1

abbrev pub unequal : ℕ × ℕ → Bool
unequal p = not (p.0 == p.1)

-- none where the lengths differ, else from the last pair to the first
abbrev pub pairs : List ℕ → List ℕ → ℕ
pairs a b = cond (eqb (length a) (length b)) (until_unequal (reverse a) (reverse b)) 0
