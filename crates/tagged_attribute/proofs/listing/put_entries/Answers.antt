use Rattle.tagged_attribute.proofs.Lines as lines
use Rattle.tagged_attribute.proofs.listing.put_entries.Goals as goal

pub loop-next-init : goal.loop-next-init
loop-next-init c = lines.written_start c.requires

pub loop-next-preserved : goal.loop-next-preserved
loop-next-preserved c = lines.written-more c.loop-next.invariant c.in-Some.ensures
