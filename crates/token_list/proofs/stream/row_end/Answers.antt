use native.Mathlib.Omega.{arith}
use Prim.Native.Nat.{◌+◌}
use mathlib.Core.Path.{◌≡◌, subst}
use mathlib.Core.List.{List}
use Prim.Native.Nat.{ℕ, ◌<◌}
use Rattle.token_list.specs.Contract.{RightRows}
use lib.ListN.{length}
use Rattle.token_list.specs.Layout.{marked}
use Rattle.token_list.proofs.Columns.{offset_low}
use Rattle.token_list.proofs.Rows.{Ahead, ahead_start, ahead_more, ahead_found}
use Rattle.token_list.proofs.stream.row_end.Goals as goal

-- past a kind, a space and a byte more, an LF stands ahead
third : (s : List ℕ) (at : ℕ) → RightRows s at → at < length s → Ahead s at (at + 2 + 1)
third s at rows here =
    let to : at + 3 ≡ at + 2 + 1 = omega arith in
    subst (Ahead s at) to (ahead_start s at rows here 3 (omega (arith, offset_low (marked s))))

pub overflow_add-i : goal.overflow_add-i
overflow_add-i c = let t = third c.args.s.now c.args.at c.requires.right_rows c.requires.at_in_bounds in
    omega (arith, t.ahead, t.within, c.type_inv)

pub overflow_add-i-2 : goal.overflow_add-i-2
overflow_add-i-2 c = let t = third c.args.s.now c.args.at c.requires.right_rows c.requires.at_in_bounds in
    omega (arith, t.ahead, t.within, c.type_inv)

pub loop-i-init : goal.loop-i-init
loop-i-init c = third c.args.s.now c.args.at c.requires.right_rows c.requires.at_in_bounds

pub bounds-s-i : goal.bounds-s-i
bounds-s-i c = omega (arith, c.loop-i.invariant.ahead, c.loop-i.invariant.within)

pub overflow_add-i-in-loop-i : goal.overflow_add-i-in-loop-i
overflow_add-i-in-loop-i c = omega (arith, c.loop-i.invariant.ahead, c.loop-i.invariant.within, c.type_inv)

pub loop-i-smaller : goal.loop-i-smaller
loop-i-smaller c = omega (arith, c.loop-i.invariant.ahead, c.loop-i.invariant.within)

pub loop-i-preserved : goal.loop-i-preserved
loop-i-preserved c = ahead_more c.args.s.now c.args.at c.loop-i.i c.loop-i-test.true c.loop-i.invariant

pub returns : goal.returns
returns c =
    ahead_found c.args.s.now c.args.at c.requires.right_rows c.requires.at_in_bounds c.loop-i.i c.loop-i-test.false
    c.loop-i.invariant
