use Rattle.parse.proofs.Items as items
use Rattle.parse.proofs.item.read_checked.Goals as goal

pub returns-then-roles-rows : goal.returns-then-roles-rows
returns-then-roles-rows c =
    let answer = items.answer-short c.args.s.now _ c.args.rows c.requires c.if-roles-rows.true in
    items.answered_refused c.args.s.now c.args.roles.now _ c.refuse.ensures.value answer c.refuse.ensures.roles_after
