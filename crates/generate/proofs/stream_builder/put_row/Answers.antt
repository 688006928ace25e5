use Rattle.output.proofs.Writers.{then}
use Rattle.generate.proofs.stream_builder.put_row.Goals as goal

pub returns : goal.returns
returns c = then c.byte.ensures (then c.byte-2.ensures (then c.put_mark.ensures (then c.bytes.ensures
    c.byte-3.ensures)))
