-- `scan` meets its contract: at each piece the groups that are open, the rows so far and the list are known.
use mathlib.Core.Path.{◌≡◌}
use Prim.Native.Nat.{◌-◌}
use lib.ListN.{length}
use Rattle.source.proofs.Scans.{Scanning}
use Rattle.source.proofs.tokens.scan.Given as goal

abbrev pub invariant-loop-p : goal.invariant-loop-p
invariant-loop-p l =
    (length l.cells ≡ length l.initial.cells)
    × Scanning l.s l.cells l.initial.list l.list l.initial.at l.at l.i l.depth l.measured

abbrev pub decreases-loop-p : goal.decreases-loop-p
decreases-loop-p l = length l.s - l.i
