use Rattle.token_list.proofs.Lines.{Scanned}
use Rattle.generate.proofs.names.name_end.Given as goal

abbrev pub invariant-loop-i : goal.invariant-loop-i
invariant-loop-i l = Scanned l.text l.from l.i
