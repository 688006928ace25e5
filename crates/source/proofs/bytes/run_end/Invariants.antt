-- `run_end` meets its contract: the bytes passed belong to the run.
use Prim.Native.Nat.{◌≤◌, max}
use lib.ListN.{length}
use Rattle.source.specs.Contract.{in_class}
use Rattle.source.proofs.Runs.{Ran}
use Rattle.source.proofs.bytes.run_end.Given as goal

abbrev pub invariant-loop-i : goal.invariant-loop-i
invariant-loop-i l = Ran (in_class l.class) l.s l.from l.i × (l.i ≤ max l.from (length l.s))
