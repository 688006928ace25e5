use Rattle.tagged_attribute.proofs.Turns as turns
use lib.ListN.{length}
use Prim.Native.Nat.{◌-◌}
use Rattle.tagged_attribute.proofs.utils.entries.Given as goal

abbrev pub invariant-loop-next : goal.invariant-loop-next
invariant-loop-next l = turns.Gone l.s l.initial.c l.initial.roles l.c l.roles l.count

abbrev pub decreases-loop-next : goal.decreases-loop-next
decreases-loop-next l = length l.s - l.c.at
