use mathlib.Core.Path.{ap, ◌∙◌}
use native.Mathlib.Omega.{arith}
use Rattle.output.proofs.Texts.{printed_shown}
use Rattle.token_list.specs.Text.{same}
use Rattle.replay.proofs.answers.is_refusal.Goals as goal

pub returns : goal.returns
returns c = let refusal = c.put_refusal-n.ensures in
    c.is.ensures ∙ ap (same c.args.text.now) (printed_shown refusal.printed
    (omega (arith, refusal.upper_bound)))
