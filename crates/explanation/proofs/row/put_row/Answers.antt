use native.Mathlib.Omega.{arith}
use Rattle.output.proofs.Writers.{going, goes_on}
use Rattle.explanation.proofs.Texts.{shown_next}
use Rattle.explanation.proofs.row.put_row.Goals as goal

pub loop-b-init : goal.loop-b-init
loop-b-init c = going (grind arith)

pub loop-b-preserved : goal.loop-b-preserved
loop-b-preserved c = let next = c.in-Some.ensures.steps in
    goes_on c.loop-b.invariant (shown_next _ _ next.0 next.1) c.put_shown.ensures
