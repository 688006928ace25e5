use Rattle.output.proofs.Writers.{then}
use Rattle.explanation.specs.Explanation.{near_line}
use Rattle.explanation.proofs.rows.put_near_line.Goals as goal

pub returns : goal.returns
unfolding near_line
returns c = then c.put_sign.ensures
    (then c.put_column.ensures (then c.bytes.ensures (then c.put_row.ensures c.byte.ensures)))
