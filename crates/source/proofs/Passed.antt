-- What a production takes, so many bytes at a time, and what a loop has passed of it.
use mathlib.Core.Path.{◌≡◌, refl, ap, ◌∙◌, sym}
use mathlib.Core.List.{List}
use Prim.Native.Nat.{ℕ, suc, ◌+◌, ◌-◌, ◌≤◌, ◌<◌}
use native.Mathlib.Omega.{arith}
use lib.ListN.{length}
use Rattle.source.specs.Taken.{Taken, takes, fault, after}
use Rattle.source.specs.Contract.{EndsAs, ends}
use Rattle.std.specs.Prelude.{Option, Some}
use Rattle.source.proofs.Offsets.{ends_from}

pub after_none : (t : Taken) → after 0 t ≡ t
after_none (takes k) = let e : 0 + k ≡ k = omega arith in ap takes e
after_none fault = refl

after-after : (n k : ℕ) (t : Taken) → after n (after k t) ≡ after (n + k) t
after-after n k (takes m) = let e : n + (k + m) ≡ n + k + m = omega arith in ap takes e
after-after n k fault = refl

-- a byte more before it
pub after_more : {t : Taken} (k : ℕ) (u : Taken) → t ≡ after k u → after 1 t ≡ after (suc k) u
after_more k u e =
    let n : 1 + k ≡ suc k = omega arith in ap (after 1) e ∙ after-after 1 k u ∙ ap (λ (m : ℕ). after m u) n

-- it takes k bytes
pub ends_takes : {s : List ℕ} {i e : ℕ} {t : Taken} (k : ℕ) → t ≡ takes k → e ≡ i + k → 0 < k → e ≤ length s
    → EndsAs s i t (Some e)
ends_takes {i = i} {e = e} k q p h l =
    let n : k ≡ e - i = omega arith in
    ends (record { taken = q ∙ ap takes n; forth = omega arith; within = l })

-- of t, which stands at `from`, the bytes before i are passed, and u is left
pub record Passed (t : Taken) (from i : ℕ) (u : Taken) : Type 0 where
  pub start : from ≤ i
  pub same : t ≡ after (i - from) u

module _ {t : Taken} {from : ℕ} where
  pub passed_start : Passed t from from t
  passed_start =
      let e : 0 ≡ from - from = omega arith in
      record { start = omega arith; same = sym (after_none t) ∙ ap (λ (n : ℕ). after n t) e }

  -- k bytes more
  pub passed_on : {u w : Taken} {i j : ℕ} (k : ℕ) → j ≡ i + k → u ≡ after k w → Passed t from i u → Passed t from j w
  passed_on {w = w} {i = i} {j = j} k e q p =
      let n : i - from + k ≡ j - from = omega (arith, p.start, e) in
      record {
        start = omega (arith, p.start, e);
        same = p.same ∙ ap (after (i - from)) q ∙ after-after (i - from) k w ∙ ap (λ (m : ℕ). after m w) n;
      }

  pub passed_ends : {s : List ℕ} {u : Taken} {i : ℕ} {r : Option ℕ} → EndsAs s i u r → Passed t from i u
      → EndsAs s from t r
  passed_ends {i = i} h p = ends_from i p.start p.same h
