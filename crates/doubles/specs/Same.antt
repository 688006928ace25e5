-- Which names and which integers are the same (document 02, card 9).
use Rattle.std.specs.Prelude.{Bool, false, cond, ◌&&◌, List, [], ◌∷◌, ℕ, eqb, ℤ, pos, negsuc}
use Rattle.token_list.specs.Byte.{code, HASH}
use Rattle.token_list.specs.Text.{same}

-- a name without the `r#` of RAW_IDENTIFIER (Reference 1.63, "Identifiers")
abbrev pub bare : List ℕ → List ℕ
bare [] = []
bare (r ∷ []) = r ∷ []
bare (r ∷ h ∷ t) = cond (eqb r (code "r") && eqb h HASH) t (r ∷ h ∷ t)

abbrev pub same_name : List ℕ → List ℕ → Bool
same_name x y = same (bare x) (bare y)

abbrev pub same_integer : ℤ → ℤ → Bool
same_integer (pos m) (pos n) = eqb m n
same_integer (pos m) (negsuc n) = false
same_integer (negsuc m) (pos n) = false
same_integer (negsuc m) (negsuc n) = eqb m n
