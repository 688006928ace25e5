use Prim.Native.Nat.{ℕ, ◌-◌}
use lib.ListN.{length}
use Rattle.describe.proofs.Lined.{Lined, parameters}
use Rattle.describe.proofs.listing.parameter_lines.Given as goal

abbrev pub invariant-loop-p : goal.invariant-loop-p
invariant-loop-p l =
    (n : ℕ) × Lined (parameters l.angle) l.s l.initial.c l.c l.initial.roles l.roles l.initial.w l.w n

abbrev pub decreases-loop-p : goal.decreases-loop-p
decreases-loop-p l = length l.s - l.c.at
