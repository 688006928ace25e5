use mathlib.Core.Path.{◌≡◌}
use lib.Seq.{sets}
use lib.ListN.{take}
use Rattle.output.proofs.put.copy_bytes.Given as goal

abbrev pub invariant-loop-i : goal.invariant-loop-i
invariant-loop-i l = l.out ≡ sets l.initial.out l.at (take l.i l.text)
