-- Laws on the role buffer: the rows of an entry, and all rows of a list.
use mathlib.Core.Path.{◌≡◌, ap, ◌∙◌, sym}
use mathlib.Core.List.{List, ◌++◌}
use Prim.Native.Nat.{ℕ, ◌+◌, ◌-◌, ◌≤◌}
use native.Mathlib.Omega.{arith}
use lib.ListN.{length, replicate, length-append, length-replicate}
use lib.Seq.{sets, length-sets}
use Rattle.parse.proofs.Buffer.{sets_append}
use Rattle.parse.proofs.Items.{sets_all}

-- the roles of the first rows, v for those that are left, and w past them
pub stored : (b0 b1 rs : List ℕ) (v w end rows left : ℕ) → b1 ≡ sets b0 0 rs → end ≡ length rs → length rs + left ≡ rows
    → rows ≤ length b0
    → sets (sets b1 end (replicate (rows - end) v)) rows (replicate (length b1 - rows) w)
    ≡ (rs ++ replicate left v) ++ replicate (length b0 - length (rs ++ replicate left v)) w
stored b0 b1 rs v w end rows left e f g h =
    let all-rows = rs ++ replicate left v in
    let past = length b0 - length all-rows in
    let z : rows - end ≡ left = omega (arith, f, g) in
    let q : length b1 ≡ length b0 = ap length e ∙ length-sets b0 0 rs in
    let n : length all-rows ≡ rows = omega (arith, length-append rs (replicate left v), length-replicate left v, g) in
    let y : length b1 - rows ≡ past = omega (arith, q, n) in
    let as_long : length (all-rows ++ replicate past w) ≡ length b0 = omega (
      arith,
      length-append all-rows (replicate past w),
      length-replicate past w,
      n,
    ) in
    let first : sets b1 end (replicate (rows - end) v) ≡ sets b0 0 all-rows =
    (λ i. sets (e i) (f i) (replicate (z i) v)) ∙ joined rs (replicate left v) in
    (λ i. sets (first i) (sym n i) (replicate (y i) w)) ∙ joined all-rows (replicate past w) ∙ sets_all b0 _ as_long
  where
    joined : (xs ys : List ℕ) → sets (sets b0 0 xs) (length xs) ys ≡ sets b0 0 (xs ++ ys)
    joined xs ys =
        let z : length xs ≡ 0 + length xs = omega arith in
        ap (λ (k : ℕ). sets (sets b0 0 xs) k ys) z ∙ sym (sets_append b0 0 xs ys)
