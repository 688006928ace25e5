use lib.ListN.{drop}
use Rattle.reading.specs.Token.{worth}
use Rattle.describe.proofs.Worths.{Counting}
use Rattle.describe.proofs.value.worth.Given as goal

abbrev pub invariant-loop-digit : goal.invariant-loop-digit
invariant-loop-digit l = Counting (worth l.digit-items) l.n (drop l.digit-index l.digit-items)
