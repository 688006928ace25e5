use Prim.Native.Nat.{◌-◌}
use lib.ListN.{length}
use Rattle.describe.proofs.Lined.{Lined, named}
use Rattle.describe.proofs.listing.named_lines.Given as goal

abbrev pub invariant-loop-name : goal.invariant-loop-name
invariant-loop-name l = Lined named l.s l.initial.c l.c l.initial.roles l.roles l.initial.w l.w l.count

abbrev pub decreases-loop-name : goal.decreases-loop-name
decreases-loop-name l = length l.s - l.c.at
