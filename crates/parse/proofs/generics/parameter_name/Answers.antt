use Rattle.parse.proofs.Places as places
use Rattle.parse.proofs.Meeting as meeting
use Rattle.reading.specs.Reading as reading
use Rattle.token_list.proofs.Texts.{chosen, passed_over}
use borrow.Author.Tests.{eq-eqb, ne_eqb}
use mathlib.Core.Path.{refl}
use Rattle.parse.proofs.generics.parameter_name.Goals as goal

pub returns-then-t-ne105 : goal.returns-then-t-ne105
returns-then-t-ne105 c = meeting.meets_refused (reading.parameter_name c.args.number c.args.or) _ _ c.requires _ _ _ _ _
    c.in-Leaf.ensures.here (passed_over _ _ _ (ne_eqb _ _ c.if-t-ne105.true))

pub returns-in-Nothing : goal.returns-in-Nothing
returns-in-Nothing c = meeting.meets_refused (reading.parameter_name c.args.number c.args.or) _ _ c.requires _ _ _ _ _
    c.in-Nothing.ensures refl

pub returns-in-Group : goal.returns-in-Group
returns-in-Group c = meeting.meets_refused (reading.parameter_name c.args.number c.args.or) _ _ c.requires _ _ _ _ _
    c.in-Group.ensures.here refl

pub returns-else-t-ne105 : goal.returns-else-t-ne105
returns-else-t-ne105 c = let l = c.in-Leaf.ensures in
    meeting.meets_leaf (reading.parameter_name c.args.number c.args.or) _ _ c.requires _ _ l _ _ _ _
    c.take_token.ensures.value c.take_token.ensures.roles_after _
    (chosen _ _ _ (eq-eqb _ _ c.if-t-ne105.false)) (
      record { bytes = refl; within = meeting.token_within _ _ _ l.token },
      places.token_in _ _ _ c.requires l.token,
      places.token_past _ _ _ _ c.requires l c.take_token.ensures.value,
    )
