use Rattle.parse.proofs.Loops.{Gathering}
use lib.ListN.{length}
use Prim.Native.Nat.{◌-◌}
use Rattle.parse.specs.Contract as contract
use Rattle.reading.specs.Reading as reading
use Rattle.parse.proofs.attributes.try_take.Given as goal

abbrev pub invariant-loop-a : goal.invariant-loop-a
invariant-loop-a l =
    Gathering l.s l.initial.c l.initial.roles l.c l.roles
    (reading.attributes l.initial.c.row (contract.stream l.s l.initial.c))
    (reading.attributes l.c.row (contract.stream l.s l.c))

abbrev pub decreases-loop-a : goal.decreases-loop-a
decreases-loop-a l = length l.s - l.c.at
