-- What productions take, from an offset on.
use mathlib.Core.Path.{◌≡◌, refl, ap, ◌∙◌, sym, subst}
use mathlib.Core.Bool.{Bool, true, false, ◌&&◌}
use mathlib.Core.List.{List}
use Prim.Native.Nat.{ℕ, ◌+◌, ◌-◌, ◌≤◌, ◌<◌}
use native.Mathlib.Omega.{arith}
use lib.Dec.{leb}
use borrow.Author.Tests.{leb-true, leb-false}
use lib.ListN.{length, get_or, drop, get_or-eq_default}
use lib.Seq.{get_or-drop, drop-drop}
use Rattle.source.specs.Taken.{Taken, takes, fault, after}
use Rattle.source.specs.Contract.{EndsTo, EndsAs, ends, none}
use Rattle.std.specs.Prelude.{Option, Some, None}

pub and_fails_last : (a : Bool) {b : Bool} → b ≡ false → (a && b) ≡ false
and_fails_last true e = e
and_fails_last false e = refl

-- ## Bytes at an offset

-- a byte that is not 0 stands in the text
pub stands : (s : List ℕ) (i : ℕ) → (get_or s i 0 ≡ 0 → ⊥) → i < length s
stands s i h = go (leb (length s) i) refl
  where
    go : (b : Bool) → leb (length s) i ≡ b → i < length s
    go true q = absurd (h (get_or-eq_default s 0 {n = i} (leb-true (length s) i q)))
    go false q = leb-false (length s) i q

module _ (s : List ℕ) (i : ℕ) where
  pub byte-first : get_or (drop i s) 0 0 ≡ get_or s i 0
  byte-first = let e : i + 0 ≡ i = omega arith in get_or-drop i s 0 0 ∙ ap (λ (n : ℕ). get_or s n 0) e

  pub byte_behind : (k : ℕ) → get_or (drop i s) k 0 ≡ get_or s (i + k) 0
  byte_behind k = get_or-drop i s k 0

  pub drop_behind : (k : ℕ) → drop k (drop i s) ≡ drop (i + k) s
  drop_behind k = drop-drop k i s

-- ## What is taken

module _ {s : List ℕ} {i : ℕ} where
  pub ends_as : {t u : Taken} {r : Option ℕ} → t ≡ u → EndsAs s i u r → EndsAs s i t r
  ends_as {r = r} e h = subst (λ (t : Taken). EndsAs s i t r) (sym e) h

  -- from k bytes on another production stands
  pub ends_behind : {t u : Taken} {r : Option ℕ} (k : ℕ) → t ≡ after k u → EndsAs s (i + k) u r → EndsAs s i t r
  ends_behind k q (ends {e} h) =
      let n : k + (e - (i + k)) ≡ e - i = omega (arith, h.forth) in
      ends (record {
        taken = q ∙ ap (after k) h.taken ∙ ap takes n;
        forth = omega (arith, h.forth);
        within = h.within;
      })
  ends_behind k q (none h) = none (q ∙ ap (after k) h)

  -- the same, by where the other one begins
  pub ends_from : {t u : Taken} {r : Option ℕ} (j : ℕ) → i ≤ j → t ≡ after (j - i) u → EndsAs s j u r → EndsAs s i t r
  ends_from {t} {u} {r} j l q h =
      let place : j ≡ i + (j - i) = omega arith in
      ends_behind (j - i) q (subst (λ (n : ℕ). EndsAs s n u r) place h)

  -- where it is known where it ends, or that it does not
  pub ends_to : {t : Taken} {e : ℕ} → EndsAs s i t (Some e) → EndsTo s i t e
  ends_to (ends h) = h

  pub ends_of : {t : Taken} {e : ℕ} → EndsTo s i t e → EndsAs s i t (Some e)
  ends_of h = ends h

  pub ends_not : {t : Taken} → EndsAs s i t None → t ≡ fault
  ends_not (none h) = h
