use mathlib.Core.Path.{ap, ◌∙◌}
use native.Mathlib.Omega.{arith}
use Rattle.output.proofs.Texts.{printed_shown}
use Rattle.token_list.specs.Text.{same}
use Rattle.replay.proofs.answers.is_check.Goals as goal

pub returns : goal.returns
returns c = let report = c.report_check-n.ensures in
    c.is.ensures ∙ ap (same c.args.text.now) (printed_shown report.printed
    (omega (arith, report.upper_bound)))
