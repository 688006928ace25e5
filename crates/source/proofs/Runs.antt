-- Runs of bytes that pass a test, from an offset on.
use mathlib.Core.Path.{◌≡◌, refl, ap, ◌∙◌}
use mathlib.Core.Bool.{Bool, true, false, cond}
use mathlib.Core.List.{List, [], ◌∷◌}
use Prim.Native.Nat.{ℕ, ◌+◌, ◌≤◌, ◌<◌}
use native.Mathlib.Omega.{arith}
use lib.ListN.{length, get_or, drop, drop_of_length-le, length-drop}
use Rattle.token_list.proofs.Texts.{drop_next, chosen, passed_over}
use Rattle.source.specs.Taken.{run}
use Rattle.source.specs.Contract.{RunEnd}

-- ## Runs

pub run_most : (p : ℕ → Bool) (s : List ℕ) → run p s ≤ length s
run_most p [] = omega arith
run_most p (b ∷ s) = go (p b) (run_most p s)
  where
    go : (t : Bool) → run p s ≤ length s → cond t (1 + run p s) 0 ≤ length (b ∷ s)
    go true h = omega arith
    go false h = omega arith

module _ (p : ℕ → Bool) (s : List ℕ) where
  pub run_on : (i : ℕ) → i < length s → p (get_or s i 0) ≡ true → run p (drop i s) ≡ 1 + run p (drop (i + 1) s)
  run_on i h q = ap (run p) (drop_next s i h) ∙ chosen _ _ _ q

  pub run_stops : (i : ℕ) → i < length s → p (get_or s i 0) ≡ false → run p (drop i s) ≡ 0
  run_stops i h q = ap (run p) (drop_next s i h) ∙ passed_over _ _ _ q

  pub run_none : (i : ℕ) → length s ≤ i → run p (drop i s) ≡ 0
  run_none i h = ap (run p) (drop_of_length-le s {i = i} h)

  -- what was passed from `from` to i, and the run from i on
  pub record Ran (from i : ℕ) : Type 0 where
    pub start : from ≤ i
    pub same : i + run p (drop i s) ≡ from + run p (drop from s)

  pub ran_start : (from : ℕ) → Ran from from
  ran_start from = record { start = omega arith; same = refl }

  pub ran_on : (from i : ℕ) → i < length s → p (get_or s i 0) ≡ true → Ran from i → Ran from (i + 1)
  ran_on from i h q r = record { start = omega arith; same = omega (arith, run_on i h q, r.same) }

  ends_at : (from i : ℕ) → run p (drop i s) ≡ 0 → Ran from i → RunEnd p s from i
  ends_at from i e r =
      record {
        told = omega (arith, e, r.same);
        within = λ h. omega (arith, r.same, run_most p (drop from s), length-drop from s);
      }

  pub ran_stops : (from i : ℕ) → i < length s → p (get_or s i 0) ≡ false → Ran from i → RunEnd p s from i
  ran_stops from i h q r = ends_at from i (run_stops i h q) r

  pub ran_out : (from i : ℕ) → length s ≤ i → Ran from i → RunEnd p s from i
  ran_out from i h r = ends_at from i (run_none i h) r
