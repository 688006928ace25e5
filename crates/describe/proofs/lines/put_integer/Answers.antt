use mir.Syntax.{w64}
use Rattle.std.proofs.lemmas.Int.{to_z-of_z}
use Rattle.output.proofs.Writers.{writes_as}
use Rattle.describe.proofs.Numbering.{below_text}
use Rattle.describe.proofs.lines.put_integer.Goals as goal

pub returns-then-n-lt0 : goal.returns-then-n-lt0
returns-then-n-lt0 c = let same = to_z-of_z w64 c.args.n c.ranges.n in
    writes_as (below_text c.args.n (rw same at c.if-n-lt0.true) (rw same at c.unsigned_abs-size.ensures.value))
    c.put_negative.ensures
