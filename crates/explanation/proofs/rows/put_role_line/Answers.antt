use Rattle.output.proofs.Writers.{then}
use Rattle.explanation.specs.Explanation.{role_line}
use Rattle.explanation.proofs.rows.put_role_line.Goals as goal

pub returns : goal.returns
unfolding role_line
returns c = then c.put_column.ensures
    (then c.bytes.ensures (then c.put_role.ensures (then c.put_row.ensures c.byte.ensures)))
