use mathlib.Core.Path.{◌∙◌, ap, sym}
use Rattle.token_list.specs.Text.{all}
use Rattle.token_list.specs.Contract.{in_text}
use Rattle.token_list.proofs.Texts.{all_list, drop_of_take}
use Rattle.token_list.proofs.text.all_fit.Goals as goal

pub returns-else-end-start : goal.returns-else-end-start
returns-else-end-start c =
    let part = drop_of_take c.args.start c.args.end c.args.s.now in
    c.fits.ensures ∙ all_list (in_text c.args.names) _ ∙ ap (all (in_text c.args.names)) (sym part)
