use Rattle.output.specs.Text.{decimal}
use Rattle.describe.proofs.Lined.{put_line}
use Rattle.describe.specs.Listing.{FIELD, DASH}
use Rattle.describe.proofs.lines.put_unnamed.Goals as goal

pub returns : goal.returns
returns c = put_line FIELD DASH (decimal c.args.n) c.bytes.ensures c.put_position.ensures
