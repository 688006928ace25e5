use Rattle.parse.proofs.Items as items
use mathlib.Core.Path.{◌∙◌}
use Rattle.parse.proofs.item.refuse.Goals as goal

pub returns-clause-roles_after : goal.returns-clause-roles_after
returns-clause-roles_after c = c.fill.ensures ∙ items.fill_all c.args.roles.now 255
