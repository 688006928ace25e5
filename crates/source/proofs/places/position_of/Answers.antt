use mathlib.Core.Path.{ap, ◌∙◌}
use native.Mathlib.Omega.{arith}
use lib.ListN.{take, length-take}
use Rattle.source.proofs.Spans.{positioned_start, positioned_line, positioned_on, positioned_done, take_within}
use Rattle.source.proofs.places.position_of.Goals as goal
use Rattle.source.proofs.places.position_of.Goals.{then-b-eq10, else-b-eq10}

pub loop-b-init : goal.loop-b-init
loop-b-init c = positioned_start _

pub overflow_add-line : goal.overflow_add-line
overflow_add-line c = omega (arith, c.loop-b.invariant.low.0, length-take c.min.result c.args.s.now)

pub overflow_add-column : goal.overflow_add-column
overflow_add-column c = omega (arith, c.loop-b.invariant.low.1, length-take c.min.result c.args.s.now)

pub loop-b-preserved : goal.loop-b-preserved
loop-b-preserved c = elim c.if-b-eq10.branch [
  | then-b-eq10 w ↦ rw (w.line-is, w.column-is)
      (positioned_line c.loop-b.invariant c.loop-b-test.true w.if-b-eq10.true)
  | else-b-eq10 w ↦ rw (w.line-is, w.column-is)
      (positioned_on c.loop-b.invariant c.loop-b-test.true w.if-b-eq10.false)
]

pub returns : goal.returns
returns c =
    let text = ap (λ n. take n c.args.s.now) c.min.ensures ∙ take_within c.args.s.now c.args.offset in
    positioned_done c.loop-b.invariant c.loop-b-test.false text
