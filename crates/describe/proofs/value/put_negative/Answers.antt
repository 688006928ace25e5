use native.Mathlib.Omega.{arith}
use Rattle.output.proofs.Writers.{then, writes_as}
use Rattle.describe.proofs.Worths.{negative_none, negative_some}
use Rattle.describe.proofs.value.put_negative.Goals as goal

pub returns-then-n-eq0 : goal.returns-then-n-eq0
returns-then-n-eq0 c = writes_as (negative_none _ (omega arith)) c.byte.ensures

pub returns-else-n-eq0 : goal.returns-else-n-eq0
returns-else-n-eq0 c = writes_as (negative_some _ (λ h. omega arith)) (then c.byte-else-n-eq0.ensures c.number.ensures)
