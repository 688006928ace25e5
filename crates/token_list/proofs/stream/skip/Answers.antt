use Rattle.token_list.proofs.Starts.{start_low}
use Rattle.token_list.proofs.Streams.{Inside, inside-start, inside-none, inside-step, inside_done}
use native.Mathlib.Omega.{arith}
use Prim.Native.Nat.{ℕ, ◌+◌}
use mathlib.Core.Path.{sym, subst}
use Rattle.token_list.proofs.stream.skip.Goals as goal

pub loop-depth-init : goal.loop-depth-init
loop-depth-init c = inside-start _ _ c.requires

pub returns-else-at-s : goal.returns-else-at-s
returns-else-at-s c =
    inside-none _ c.args.c c.loop-depth.at c.loop-depth.row c.loop-depth.depth c.loop-depth-test.true c.if-at-s.false
    c.loop-depth.invariant

pub row_end-at-requires : goal.row_end-at-requires
row_end-at-requires c = let low = start_low c.args.s.now c.loop-depth.row in
    record {
      right_rows = c.loop-depth.invariant.right_rows;
      at_in_bounds = omega (arith, c.if-at-s.true);
      in_bounds = omega (arith, c.loop-depth.invariant.starts, c.loop-depth.invariant.within, low);
    }

pub deeper-depth-requires : goal.deeper-depth-requires
deeper-depth-requires c =
    (c.loop-depth-test.true, omega (arith, c.loop-depth.invariant.deep, c.loop-depth.invariant.within, c.type_inv))

pub overflow_add-row : goal.overflow_add-row
overflow_add-row c = omega (arith, c.loop-depth.invariant.counted, c.if-at-s.true, c.type_inv)

pub loop-depth-smaller : goal.loop-depth-smaller
loop-depth-smaller c = omega (arith, c.row_end-at.ensures.within, c.row_end-at.ensures.text)

pub loop-depth-preserved : goal.loop-depth-preserved
loop-depth-preserved c =
    subst (λ (d : ℕ). Inside c.args.s.now c.args.c (c.row_end-at.result + 1) (c.loop-depth.row + 1) d)
    (sym c.deeper-depth.ensures)
    (inside-step c.args.s.now c.args.c c.loop-depth.at c.loop-depth.row c.loop-depth.depth c.row_end-at.result
    c.loop-depth-test.true c.loop-depth.invariant
    c.row_end-at.ensures)

pub returns-after-loop-depth : goal.returns-after-loop-depth
returns-after-loop-depth c =
    inside_done _ c.args.c c.loop-depth.at c.loop-depth.row c.loop-depth.depth c.loop-depth-test.false
    c.loop-depth.invariant
