use Rattle.parse.proofs.Buffer.{fill_part, fill_nothing}
use Rattle.parse.proofs.utils.fill.Goals as goal

pub returns-then-from-end : goal.returns-then-from-end
returns-then-from-end c =
    fill_part c.args.roles.now c.args.from c.args.to c.args.role _ c.min-end.ensures _ c.if-from-end.true
    (c.fill.ensures.after (λ y h. h))

pub returns-else-from-end : goal.returns-else-from-end
returns-else-from-end c =
    fill_nothing c.args.roles.now c.args.from c.args.to c.args.role _ c.min-end.ensures c.if-from-end.false
