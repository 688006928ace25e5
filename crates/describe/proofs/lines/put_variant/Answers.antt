use lib.Seq.{slice}
use mathlib.Core.Path.{ap}
use mir.Syntax.{w64}
use Rattle.std.proofs.lemmas.Int.{to_z-of_z}
use Rattle.output.proofs.Writers.{then, writes_as}
use Rattle.describe.proofs.Lined.{put_line}
use Rattle.describe.specs.Listing.{VARIANT, line, number_text}
use Rattle.describe.proofs.lines.put_variant.Goals as goal

pub returns : goal.returns
returns c = let name = slice c.args.v.name.start c.args.v.name.end c.args.s.now in
    λ a k.
    let n = number_text c.args.n in
    let same = to_z-of_z w64 c.args.n c.ranges.n in
    let rest = then c.byte.ensures (then (rw same at c.put_integer.ensures) c.byte-2.ensures) in
    writes_as (ap (λ x. line VARIANT x n) k.name.bytes) (put_line VARIANT name n c.put_head.ensures rest)
