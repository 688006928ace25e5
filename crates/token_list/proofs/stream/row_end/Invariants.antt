use Prim.Native.Nat.{◌-◌}
use lib.ListN.{length}
use Rattle.token_list.proofs.Rows.{Ahead}
use Rattle.token_list.proofs.stream.row_end.Given as goal

abbrev pub invariant-loop-i : goal.invariant-loop-i
invariant-loop-i l = Ahead l.s l.at l.i

abbrev pub decreases-loop-i : goal.decreases-loop-i
decreases-loop-i l = length l.s - l.i
