use mathlib.Core.Path.{◌∙◌, ap, sym}
use Rattle.token_list.specs.Text.{plain_name}
use Rattle.token_list.proofs.Texts.{drop_of_take}
use Rattle.token_list.proofs.row.is_plain_name.Goals as goal

pub returns-then-start-end : goal.returns-then-start-end
returns-then-start-end c =
    c.plain_name.ensures ∙ ap plain_name (sym (drop_of_take c.args.start c.args.end c.args.s.now))
