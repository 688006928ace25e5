use Rattle.tagged_attribute.proofs.Lines as lines
use lib.ListN.{length}
use Prim.Native.Nat.{◌-◌}
use Rattle.tagged_attribute.proofs.listing.put_entries.Given as goal

abbrev pub invariant-loop-next : goal.invariant-loop-next
invariant-loop-next l = lines.Written l.s l.initial.c l.c l.initial.w l.w

abbrev pub decreases-loop-next : goal.decreases-loop-next
decreases-loop-next l = length l.s - l.c.at
