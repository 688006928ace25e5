use Rattle.token_list.proofs.Walks.{Reached}
use Prim.Native.Nat.{◌-◌}
use lib.ListN.{length}
use Rattle.token_list.proofs.check.+walk.Given as goal

abbrev pub invariant-loop-at : goal.invariant-loop-at
invariant-loop-at l = Reached l.marked l.s l.levels l.fn.from l.at l.row

abbrev pub decreases-loop-at : goal.decreases-loop-at
decreases-loop-at l = length l.s - l.at

abbrev pub decreases-walk : goal.decreases-walk
decreases-walk l = l.levels
