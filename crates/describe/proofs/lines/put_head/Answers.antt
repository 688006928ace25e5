use mathlib.Core.List.{◌++◌}
use mathlib.Core.Path.{ap, sym}
use Rattle.output.proofs.Writers.{then, writes_as}
use Rattle.describe.proofs.lines.put_head.Goals as goal

pub returns : goal.returns
returns c = writes_as (ap (λ t. c.args.part.now ++ t) (sym c.text.ensures)) (then c.bytes.ensures c.bytes-2.ensures)
