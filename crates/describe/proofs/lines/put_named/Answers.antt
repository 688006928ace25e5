use lib.Seq.{slice}
use Rattle.output.specs.Text.{decimal}
use Rattle.describe.proofs.Lined.{put_line}
use Rattle.describe.specs.Listing.{FIELD}
use Rattle.describe.proofs.lines.put_named.Goals as goal

pub returns : goal.returns
returns c =
    put_line FIELD (slice c.args.name.start c.args.name.end c.args.s.now) (decimal c.args.n) c.put_head.ensures
    c.put_position.ensures
