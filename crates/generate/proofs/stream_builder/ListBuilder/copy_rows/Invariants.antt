use Rattle.generate.proofs.Copying.{Copying}
use Rattle.generate.proofs.stream_builder.ListBuilder.copy_rows.Given as goal

abbrev pub invariant-loop-row : goal.invariant-loop-row
invariant-loop-row l = Copying l.s l.fn.from l.fn.to l.initial.self l.self l.at l._row
