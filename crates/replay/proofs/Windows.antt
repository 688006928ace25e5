-- Laws on the unread bytes in their buffer.
use mathlib.Core.Path.{◌≡◌, ap, ◌∙◌, sym}
use mathlib.Core.List.{List}
use Prim.Native.Nat.{ℕ, ◌+◌}
use native.Mathlib.Omega.{arith}
use lib.ListN.{length, take, drop, length-drop}
use lib.Seq.{paste}
use Rattle.std.proofs.lemmas.List.Edits.{take-paste}
use Rattle.std.specs.List.{copy_within}
use Rattle.token_list.proofs.Texts.{drop_of_take}
use Rattle.replay.specs.Window.{Within, unread, size}
use Rattle.replay.specs.declared.window.Window.{Window}

-- moved to the buffer's start
pub moved_there : (b : List ℕ) (v : Window) → Within (length b) v → {l : List ℕ} → l ≡ copy_within b v.from v.to 0
    → take (size v) l ≡ unread b v
moved_there b v i e =
    let n : size v ≡ 0 + size v = omega arith in
    ap (take (size v)) e ∙ ap (λ (k : ℕ). take k (paste b 0 (drop v.from b) (size v))) n
    ∙ take-paste b 0 (drop v.from b) (size v) (omega arith)
    (omega (arith, i.order, i.room, length-drop v.from b))
    ∙ sym (drop_of_take v.from v.to b)

-- the first n of them, as the code takes them
pub first_unread : (b : List ℕ) (v : Window) (n : ℕ) → take n (take (size v) (drop v.from b)) ≡ take n (unread b v)
first_unread b v n = ap (take n) (sym (drop_of_take v.from v.to b))
