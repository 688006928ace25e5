use lib.ListN.{length}
use Rattle.replay.specs.State.{Placed}
use Rattle.replay.proofs.replay.Given as goal

abbrev pub invariant-loop : goal.invariant-loop
invariant-loop l = Placed (length l.buf) (length l.list) l.s
