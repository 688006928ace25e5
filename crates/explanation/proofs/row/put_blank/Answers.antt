use borrow.Author.Tests.{lt-ltb, le-ltb}
use Rattle.output.proofs.Writers.{unwritten}
use Rattle.explanation.specs.Row.{blank}
use Rattle.explanation.proofs.row.put_blank.Goals as goal

pub returns-then-n-bound : goal.returns-then-n-bound
unfolding blank
returns-then-n-bound c = rw (lt-ltb _ _ c.if-n-bound.true) c.byte.ensures

pub returns-else-n-bound : goal.returns-else-n-bound
unfolding blank
returns-else-n-bound c = rw (le-ltb _ _ c.if-n-bound.false) unwritten
