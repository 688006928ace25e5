use Rattle.parse.specs.Contract as contract
use Rattle.reading.specs.Reading as reading
use Rattle.parse.proofs.Loops.{Rounded}
use lib.ListN.{length}
use Prim.Native.Nat.{◌-◌}
use Rattle.parse.proofs.parts.every.Given as goal

abbrev pub invariant-loop-next : goal.invariant-loop-next
invariant-loop-next g l =
    let m = g.P.Parts.reading l.parts in
    Rounded l.s l.initial.c l.initial.roles l.c l.roles l.count
    (reading.every m l.initial.c.row (contract.stream l.s l.initial.c))
    (reading.every m l.c.row (contract.stream l.s l.c))

abbrev pub decreases-loop-next : goal.decreases-loop-next
decreases-loop-next g l = length l.s - l.c.at
