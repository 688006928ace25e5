use Rattle.tagged_attribute.proofs.Turns as turns
use Rattle.tagged_attribute.proofs.utils.entries.Goals as goal

pub loop-next-init : goal.loop-next-init
loop-next-init c = turns.gone_start c.requires

pub loop-next-preserved : goal.loop-next-preserved
loop-next-preserved c = turns.gone_more c.loop-next.invariant (rw c.in-Some.is at c.in_ok-next.ensures)
