use Rattle.token_list.proofs.Lines.{Scanned}
use Rattle.token_list.specs.Text.{all}
use Rattle.token_list.specs.Contract.{in_text}
use lib.Seq.{slice}
use lib.ListN.{length}
use Prim.Native.Nat.{◌-◌}
use mathlib.Core.Path.{◌≡◌}
use mathlib.Core.Bool.{true}
use Rattle.token_list.proofs.text.text_end.Given as goal

abbrev pub invariant-loop-i : goal.invariant-loop-i
invariant-loop-i l = Scanned l.s l.from l.i × (all (in_text l.names) (slice l.from l.i l.s) ≡ true)

abbrev pub decreases-loop-i : goal.decreases-loop-i
decreases-loop-i l = length l.s - l.i
