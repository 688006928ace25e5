use Rattle.report.specs.Roles.{role_line}
use Rattle.output.proofs.Writers.{then}
use Rattle.report.proofs.roles.put_line.Goals as goal

pub returns : goal.returns
unfolding role_line
returns c = then c.number.ensures (then c.byte.ensures (then c.number-2.ensures c.byte-2.ensures))
