use Rattle.output.proofs.Writers.{then}
use Rattle.explanation.proofs.explain.put_names_line.Goals as goal

pub returns : goal.returns
returns c = then c.bytes.ensures c.names.ensures
