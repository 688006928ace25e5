use Rattle.source.proofs.Spans.{Positioned}
use Rattle.source.proofs.places.position_of.Given as goal

abbrev pub invariant-loop-b : goal.invariant-loop-b
invariant-loop-b l = Positioned l.b-items l.b-index l.line l.column
