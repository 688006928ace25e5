use Prim.Native.Nat.{◌-◌}
use lib.ListN.{length}
use Rattle.describe.proofs.Sightings.{Sighting}
use Rattle.describe.proofs.faults.variant_faults.Given as goal

abbrev pub invariant-loop-v : goal.invariant-loop-v
invariant-loop-v l =
    Sighting l.s l.initial.c l.c l.initial.roles l.initial.names l.initial.hashes l.initial.signs l.initial.sizes
    l.roles l.names l.hashes l.signs l.sizes l.before l.count l.name l.number

abbrev pub decreases-loop-v : goal.decreases-loop-v
decreases-loop-v l = length l.s - l.c.at
