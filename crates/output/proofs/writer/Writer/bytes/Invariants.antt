use Rattle.output.specs.Writes.{Writes}
use lib.ListN.{take}
use Rattle.output.proofs.writer.Writer.bytes.Given as goal

abbrev pub invariant-loop-b : goal.invariant-loop-b
invariant-loop-b l = Writes l.initial.self l.self (take l.b-index l.text)
