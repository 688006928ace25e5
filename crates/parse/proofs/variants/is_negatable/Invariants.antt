use Rattle.parse.proofs.Bodies.{Negatable}
use Rattle.reading.specs.Token.{negatable}
use lib.Seq.{slice}
use lib.ListN.{drop}
use mathlib.Core.Path.{◌≡◌}
use Rattle.parse.proofs.variants.is_negatable.Given as goal

abbrev pub invariant-loop-b : goal.invariant-loop-b
invariant-loop-b l = negatable (slice l.start l.end l.s) ≡ Negatable l.n (drop l.b-index l.b-items)
