use native.Mathlib.Omega.{arith}
use Rattle.output.specs.Text.{refusal_text}
use Rattle.output.proofs.Texts.{refusal_few}
use Rattle.output.proofs.Writers.{then}
use Rattle.output.proofs.writer.Writer.refusal.Goals as goal

pub returns-clause-writes : goal.returns-clause-writes
unfolding refusal_text
returns-clause-writes c = then c.bytes.ensures
    (then c.number.ensures (then c.byte.ensures (then c.place.ensures c.byte-2.ensures)))

pub returns-clause-upper_bound : goal.returns-clause-upper_bound
returns-clause-upper_bound c = refusal_few c.args.refusal.number c.args.refusal.place (omega arith) (omega arith)
