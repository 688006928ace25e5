use Prim.Native.Nat.{◌-◌}
use lib.ListN.{length}
use Rattle.source.proofs.Spans.{Counted}
use Rattle.source.proofs.places.row_place.Given as goal

abbrev pub invariant-loop-p : goal.invariant-loop-p
invariant-loop-p l = Counted l.s l.row l.i l.left

abbrev pub decreases-loop-p : goal.decreases-loop-p
decreases-loop-p l = length l.s - l.i
