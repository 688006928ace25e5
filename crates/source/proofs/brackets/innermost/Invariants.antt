use Prim.Native.Nat.{◌-◌}
use lib.ListN.{length}
use Rattle.source.proofs.Walks.{Sought}
use Rattle.source.proofs.brackets.innermost.Given as goal

abbrev pub invariant-loop-i : goal.invariant-loop-i
invariant-loop-i l = Sought l.s l.end l.depth l.i l.count l.found

abbrev pub decreases-loop-i : goal.decreases-loop-i
decreases-loop-i l = length l.s - l.i
