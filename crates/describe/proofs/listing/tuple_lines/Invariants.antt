use Prim.Native.Nat.{◌-◌}
use lib.ListN.{length}
use Rattle.describe.proofs.Lined.{Lined, tuple}
use Rattle.describe.proofs.listing.tuple_lines.Given as goal

abbrev pub invariant-loop-next : goal.invariant-loop-next
invariant-loop-next l = Lined tuple l.s l.initial.c l.c l.initial.roles l.roles l.initial.w l.w l.count

abbrev pub decreases-loop-next : goal.decreases-loop-next
decreases-loop-next l = length l.s - l.c.at
