-- Laws on the worth of a byte as a digit.
use mathlib.Core.Path.{◌≡◌, ap, ◌∙◌}
use mathlib.Core.Bool.{Bool, true, false, ◌&&◌}
use Prim.Native.Nat.{ℕ, ◌-◌, ◌≤◌, ◌<◌}
use native.Mathlib.Omega.{arith}
use borrow.Author.Tests.{lt-leb, le-leb}
use lib.Dec.{leb}
use Rattle.token_list.specs.Text.{between, digit_worth}
use Rattle.token_list.proofs.Texts.{and_both, chosen, passed_over}

module _ (lo hi b : ℕ) where
  inside : lo ≤ b → b ≤ hi → between lo hi b ≡ true
  inside h k = and_both _ _ (le-leb lo b h) (le-leb b hi k)

  below : b < lo → between lo hi b ≡ false
  below h = ap (λ (t : Bool). t && leb b hi) (lt-leb lo b h)

-- no digit: in no range
abbrev NoDigit : ℕ → Type 0
NoDigit b = (between 48 57 b ≡ false) × (between 97 102 b ≡ false) × (between 65 70 b ≡ false)

no_digit : (b : ℕ) → NoDigit b → digit_worth b ≡ 16
unfolding digit_worth
no_digit b h = passed_over _ _ _ h.0 ∙ passed_over _ _ _ h.1 ∙ passed_over _ _ _ h.2

pub before-digits : (b : ℕ) → b < 48 → digit_worth b ≡ 16
before-digits b h = no_digit b (below 48 57 b h, below 97 102 b (omega arith), below 65 70 b (omega arith))

pub digit-worth : (b : ℕ) → 48 ≤ b → b ≤ 57 → digit_worth b ≡ b - 48
unfolding digit_worth
digit-worth b h k = chosen _ _ _ (inside 48 57 b h k)
