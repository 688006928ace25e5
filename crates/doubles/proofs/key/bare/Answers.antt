use Rattle.doubles.proofs.Keys.{bare_plain, bare_raw}
use mathlib.Core.Path.{sym, ◌∙◌}
use Rattle.doubles.proofs.key.bare.Goals as goal

pub returns-then-starts_with : goal.returns-then-starts_with
returns-then-starts_with c =
    bare_raw c.args.s.now c.args.start c.args.end c.requires.start_le_end
    (sym c.starts_with.ensures.value ∙ c.if-starts_with.true) (c.starts_with.ensures.bound c.if-starts_with.true)

pub returns-else-starts_with : goal.returns-else-starts_with
returns-else-starts_with c =
    bare_plain c.args.s.now c.args.start c.args.end c.requires.start_le_end
    (sym c.starts_with.ensures.value ∙ c.if-starts_with.false)
