use Rattle.output.proofs.Writers.{then}
use Rattle.describe.proofs.lines.put_position.Goals as goal

pub returns : goal.returns
returns c = then c.byte.ensures (then c.number.ensures c.byte-2.ensures)
