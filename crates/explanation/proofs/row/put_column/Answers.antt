use Rattle.output.proofs.Writers.{then}
use Rattle.explanation.specs.Row.{column}
use Rattle.explanation.proofs.row.put_column.Goals as goal

pub returns : goal.returns
unfolding column
returns c = then c.put_blank.ensures (then c.put_blank-2.ensures (then c.put_blank-3.ensures c.number.ensures))
