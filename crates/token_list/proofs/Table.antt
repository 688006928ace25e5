-- A rule that holds at each entry of a table, from one test that antt computes over the whole table.
use mathlib.Core.Path.{◌≡◌, ◌∙◌, refl, subst, sym}
use mathlib.Core.Bool.{Bool, true, false, ◌&&◌, beq}
use mathlib.Core.List.{List, [], ◌∷◌}
use Prim.Native.Nat.{ℕ, zero, suc, ◌+◌, ◌<◌}
use native.Mathlib.Nat.{add-zero, zero-add, add-suc, suc-add, le_of_suc-le-suc, not-suc-le-zero}
use lib.Dec.{T}
use lib.ListN.{length, get_or}

-- both parts of a test that passes
pub parts : (a b : Bool) → T (a && b) → T a × T b
parts true b t = (tt, t)
parts false b t = absurd t

-- the test passes at each entry with its index, counted from i
abbrev pub holds : (ℕ → ℕ → Bool) → ℕ → List ℕ → Bool
holds f i [] = true
holds f i (x ∷ xs) = f i x && holds f (suc i) xs

from : (f : ℕ → ℕ → Bool) (xs : List ℕ) (i k : ℕ) → T (holds f i xs) → k < length xs → T (f (i + k) (get_or xs k 0))
from f [] i k t h = absurd (not-suc-le-zero h)
from f (x ∷ xs) i zero t h = rw add-zero (parts (f i x) (holds f (suc i) xs) t).0
from f (x ∷ xs) i (suc k) t h =
    subst (λ (m : ℕ). T (f m (get_or xs k 0))) (suc-add i k ∙ sym (add-suc i k))
    (from f xs (suc i) k (parts (f i x) (holds f (suc i) xs) t).1 (le_of_suc-le-suc h))

pub entry : (f : ℕ → ℕ → Bool) (xs : List ℕ) (k : ℕ) → T (holds f 0 xs) → k < length xs → T (f k (get_or xs k 0))
entry f xs k t h = rw zero-add at (from f xs 0 k t h)

pub beq_path : (a b : Bool) → T (beq a b) → a ≡ b
beq_path true true t = refl
beq_path true false t = absurd t
beq_path false true t = absurd t
beq_path false false t = refl
