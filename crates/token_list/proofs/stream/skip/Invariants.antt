use Rattle.token_list.proofs.Streams.{Inside}
use lib.ListN.{length}
use Prim.Native.Nat.{◌-◌}
use Rattle.token_list.proofs.stream.skip.Given as goal

abbrev pub invariant-loop-depth : goal.invariant-loop-depth
invariant-loop-depth l = Inside l.s l.fn.c l.at l.row l.depth

abbrev pub decreases-loop-depth : goal.decreases-loop-depth
decreases-loop-depth l = length l.s - l.at
