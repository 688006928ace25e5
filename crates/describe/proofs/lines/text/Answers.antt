use Rattle.describe.proofs.Lined.{between}
use Rattle.describe.proofs.lines.text.Goals as goal

pub returns : goal.returns
returns c = between c.args.s.now c.args.t.start c.args.t.end c.min.ensures
