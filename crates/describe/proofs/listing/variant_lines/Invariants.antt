use Prim.Native.Nat.{◌-◌}
use lib.ListN.{length}
use Rattle.describe.proofs.Numbering.{Numbering}
use Rattle.describe.proofs.listing.variant_lines.Given as goal

abbrev pub invariant-loop-v : goal.invariant-loop-v
invariant-loop-v l =
    Numbering l.s l.initial.c l.c l.initial.roles l.roles l.initial.w l.w l.before

abbrev pub decreases-loop-v : goal.decreases-loop-v
decreases-loop-v l = length l.s - l.c.at
