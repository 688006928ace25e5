-- Laws on runs of stores into the role buffer.
use mathlib.Core.Path.{◌≡◌, refl, ap, ◌∙◌, sym}
use mathlib.Core.List.{List, [], ◌∷◌, ◌++◌, append_assoc}
use Prim.Native.Nat.{ℕ, zero, suc, ◌+◌, ◌-◌, ◌≤◌, ◌<◌}
use native.Mathlib.Nat.{zero-add, suc-add}
use native.Mathlib.Omega.{arith}
use borrow.Rule.Slice.PartMut.{mid_of, mid_len, put_mid}
use lib.ListN.{length, take, drop, replicate, length-replicate}
use lib.Seq.{sets, sets-eq, set_out, length-sets}
use Rattle.std.specs.Prelude.{min}
use Rattle.std.proofs.Common.{◌⊎◌, inl, inr}
use Rattle.std.proofs.Math.Nat.{min-eq_left, min-eq_right, min-le_right}
use Rattle.std.proofs.lemmas.Bool.{cases_lt}
use Rattle.std.proofs.lemmas.List.Edits.{paste_all}
use Rattle.std.proofs.lemmas.Slice.{put_mid-paste}
pub use Rattle.token_list.proofs.Stores.{sets_append}

-- stores past the end change nothing
sets_out : (l : List ℕ) (i : ℕ) (xs : List ℕ) → length l ≤ i → sets l i xs ≡ l
sets_out l i [] h = refl
sets_out l i (x ∷ xs) h = ap (λ (k : List ℕ). sets k (suc i) xs) (set_out l i x h) ∙ sets_out l (suc i) xs (omega arith)

replicate_add : (n m v : ℕ) → replicate (n + m) v ≡ replicate n v ++ replicate m v
replicate_add zero m v = ap (λ (k : ℕ). replicate k v) (zero-add m)
replicate_add (suc n) m v =
    ap (λ (k : ℕ). replicate k v) (suc-add n m) ∙ ap (λ (xs : List ℕ). v ∷ xs) (replicate_add n m v)

fill_clip : (l : List ℕ) (from to v : ℕ) → length l ≤ to →
    sets l from (replicate (length l - from) v) ≡ sets l from (replicate (to - from) v)
fill_clip l from to v h =
    let n = length l - from in
    let m = to - from - n in
    let e : to - from ≡ n + m = omega arith in
    let out : length (sets l from (replicate n v)) ≤ from + length (replicate n v) =
    omega (arith, length-sets l from (replicate n v), length-replicate n v) in
    sym
    (ap (λ (k : ℕ). sets l from (replicate k v)) e
    ∙ ap (sets l from) (replicate_add n m v)
    ∙ sets_append l from (replicate n v) (replicate m v)
    ∙ sets_out (sets l from (replicate n v)) (from + length (replicate n v)) (replicate m v) out)

-- ## A fill that ends at `e`, where `to` stands or the buffer ends

module _ (l : List ℕ) (from to v e : ℕ) (ends : e ≡ min to (length l)) where
  clipped : sets l from (replicate (e - from) v) ≡ sets l from (replicate (to - from) v)
  clipped = go (cases_lt (length l) to)
    where
      go : (length l < to) ⊎ (to ≤ length l) → sets l from (replicate (e - from) v) ≡
          sets l from (replicate (to - from) v)
      go (inl h) = ap (λ (n : ℕ). sets l from (replicate (n - from) v)) (ends ∙ min-eq_right (omega (arith, h))) ∙
          fill_clip l from to v (omega (arith, h))
      go (inr h) = ap (λ (n : ℕ). sets l from (replicate (n - from) v)) (ends ∙ min-eq_left h)

  pub fill_part : (xs : List ℕ) → from < e → xs ≡ replicate (length (mid_of from (e - from) l)) v
      → put_mid from (e - from) l xs ≡ sets l from (replicate (to - from) v)
  fill_part xs h x =
      let n = e - from in
      let ys = replicate n v in
      let w : length ys ≡ n = length-replicate n v in
      let inside : e ≤ length l = rw ends (min-le_right to (length l)) in
      put_mid-paste from n l xs ys n (x ∙ ap (λ (k : ℕ). replicate k v) (mid_len from e l inside)) refl (sym w)
      ∙ paste_all l from ys n (sym w)
      ∙ ap (λ (k : ℕ). take from l ++ (ys ++ drop (from + k) l)) (sym w)
      ∙ sym (sets-eq ys l from (omega (arith, w, inside, h)) ∙ append_assoc (take from l) ys _)
      ∙ clipped

  pub fill_nothing : e ≤ from → l ≡ sets l from (replicate (to - from) v)
  fill_nothing h = let z : 0 ≡ e - from = omega (arith, h) in
      ap (λ (n : ℕ). sets l from (replicate n v)) z ∙ clipped
