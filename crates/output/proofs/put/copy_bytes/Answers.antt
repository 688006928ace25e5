use Rattle.token_list.proofs.Stores.{sets_append}
use mathlib.Core.Path.{◌≡◌, refl, sym, ap, ◌∙◌}
use mathlib.Core.List.{List, [], ◌∷◌}
use lib.Seq.{sets, length-sets, length-take-le, take-suc, take_all}
use lib.ListN.{length, take, get_or, set}
use Prim.Native.Nat.{ℕ, suc, ◌+◌, ◌<◌}
use native.Mathlib.Omega.{arith}
use native.Mathlib.Numerals.{add-one}
use Rattle.output.proofs.put.copy_bytes.Goals as goal

-- one byte more
one_more : (l : List ℕ) (i : ℕ) (t : List ℕ) (n : ℕ) → n < length t
    → sets l i (take (suc n) t) ≡ set (sets l i (take n t)) (i + n) (get_or t n 0)
one_more l i t n h =
    let long = length-take-le n t (omega arith) in
    ap (sets l i) (take-suc t n 0 h)
    ∙ sets_append l i (take n t) (get_or t n 0 ∷ [])
    ∙ ap (λ (k : ℕ). set (sets l i (take n t)) (i + k) (get_or t n 0)) long

pub loop-i-preserved : goal.loop-i-preserved
loop-i-preserved c =
    let i = c.loop-i.i in
    let stored =
    ap (λ (x : List ℕ). set x (c.args.at + i) (get_or c.args.text.now i 0)) c.loop-i.invariant in
    stored ∙ rw add-one (sym (one_more c.args.out.now c.args.at c.args.text.now i (omega arith)))
