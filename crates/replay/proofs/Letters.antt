-- Laws on the letters of roles.
use mathlib.Core.Path.{◌≡◌, refl}
use mathlib.Core.Bool.{Bool}
use mathlib.Core.List.{List, [], ◌∷◌}
use Prim.Native.Nat.{ℕ, ◌≤◌}
use lib.ListN.{length, drop, drop_of_length-le}
use Rattle.token_list.specs.Text.{same}
use Rattle.replay.specs.Answer.{letters_fit}

fits-none : (every : Bool) (bs : List ℕ) → same bs (10 ∷ []) ≡ letters_fit every bs []
fits-none every [] = refl
fits-none every (b ∷ bs) = refl

-- no role is left
pub fits_end : (every : Bool) (bs rs : List ℕ) (i : ℕ) → length rs ≤ i → same bs (10 ∷ []) ≡
    letters_fit every bs (drop i rs)
fits_end every bs rs i h = rw (drop_of_length-le rs {i = i} h) (fits-none every bs)
