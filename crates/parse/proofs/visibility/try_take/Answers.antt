use Rattle.parse.proofs.Meeting as meeting
use Rattle.parse.specs.Contract as contract
use Rattle.reading.specs.Reading as reading
use mathlib.Core.Path.{refl, ◌∙◌}
use Rattle.parse.proofs.Looks.{no_visibility}
use Rattle.parse.proofs.visibility.try_take.Goals as goal

pub returns-then-l-ne112 : goal.returns-then-l-ne112
returns-then-l-ne112 c = meeting.meets_same reading.visibility c.args.s.now c.args.c c.requires _ _ _ _ refl
    (no_visibility c.args.c.row (contract.stream c.args.s.now c.args.c)
    (λ e. c.if-l-ne111.true (c.look-l.ensures.kind ∙ e))
    (λ e. c.if-l-ne112.true (c.look-l.ensures.first ∙ e)))
    tt

pub returns : goal.returns
returns c = meeting.meets_show (λ v h. tt) c.try_take_at.ensures
