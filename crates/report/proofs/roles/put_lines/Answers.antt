use native.Mathlib.Omega.{arith}
use mathlib.Core.Path.{refl}
use Rattle.output.proofs.Writers.{going, goes_on, gone}
use Rattle.report.proofs.Lines.{lines_next, lines_end}
use Rattle.report.proofs.roles.put_lines.Goals as goal

pub loop-row-init : goal.loop-row-init
loop-row-init c = going refl

pub loop-row-preserved : goal.loop-row-preserved
loop-row-preserved c =
    goes_on c.loop-row.invariant (lines_next c.loop-row.row c.args.roles.now (omega arith)) c.put_line.ensures

pub returns : goal.returns
returns c = gone c.loop-row.invariant (lines_end c.loop-row.row c.args.roles.now (omega arith))
