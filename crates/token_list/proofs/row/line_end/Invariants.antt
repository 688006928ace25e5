use Rattle.token_list.proofs.Lines.{Scanned}
use lib.ListN.{length}
use Prim.Native.Nat.{◌-◌}
use Rattle.token_list.proofs.row.line_end.Given as goal

abbrev pub invariant-loop-i : goal.invariant-loop-i
invariant-loop-i l = Scanned l.s l.from l.i

abbrev pub decreases-loop-i : goal.decreases-loop-i
decreases-loop-i l = length l.s - l.i
