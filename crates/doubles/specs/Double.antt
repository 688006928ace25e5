-- The first of several things that stands at an earlier position too (document 02, cards 9 and 10).
use Rattle.std.specs.Prelude.{◌≡◌, Bool, false, cond, ◌||◌, List, [], ◌∷◌, ◌++◌, ℕ, ◌+◌, ◌<◌, length, get_or}

-- the position of the second of two that are the same
pub data Double : Type 0 where
  none : Double
  second : ℕ → Double

-- whether x is the same as one of these
abbrev pub stands : {A : Type 0} → (A → A → Bool) → A → List A → Bool
stands same x [] = false
stands same x (y ∷ ys) = same x y || stands same x ys

-- from position k on, after `before`
abbrev pub double_from : {A : Type 0} → (A → A → Bool) → List A → ℕ → List A → Double
double_from same before k [] = none
double_from same before k (x ∷ xs) =
    cond (stands same x before) (second k) (double_from same (before ++ x ∷ []) (k + 1) xs)

abbrev pub first_double : {A : Type 0} → (A → A → Bool) → List A → Double
first_double same xs = double_from same [] 0 xs

-- no two of the first n are equal; d stands where there is none
abbrev pub Different : {A : Type 0} → A → ℕ → List A → Type 0
Different d n xs = (i j : ℕ) → i < j → j < n → get_or xs i d ≡ get_or xs j d → ⊥

-- what it says of things with an equality
abbrev pub Told : {A : Type 0} → A → List A → Double → Type 0
Told d xs none = Different d (length xs) xs
Told d xs (second k) = (k < length xs) × Different d k xs × ((i : ℕ) × (i < k) × (get_or xs i d ≡ get_or xs k d))
