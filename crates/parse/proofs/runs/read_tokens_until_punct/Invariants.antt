use Rattle.parse.proofs.Turns.{Running}
use Rattle.parse.specs.Contract.{stops_of}
use lib.ListN.{length}
use Prim.Native.Nat.{◌-◌}
use Rattle.parse.proofs.runs.read_tokens_until_punct.Given as goal

abbrev pub invariant-loop-next : goal.invariant-loop-next
invariant-loop-next l = Running l.s (stops_of l.stops) l.role l.initial.c l.initial.roles l.c l.depth l.minus l.roles

abbrev pub decreases-loop-next : goal.decreases-loop-next
decreases-loop-next l = length l.s - l.c.at
