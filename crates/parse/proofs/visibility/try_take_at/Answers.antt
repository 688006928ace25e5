use Rattle.parse.proofs.Meeting as meeting
use Rattle.reading.specs.Reading as reading
use mathlib.Core.Path.{refl}
use Rattle.parse.proofs.visibility.try_take_at.Goals as goal

pub returns-in-Absent : goal.returns-in-Absent
returns-in-Absent c = let b = c.in-Absent.ensures in meeting.meets_still _ c.requires b.0 b.1 refl

pub returns-in-Plain : goal.returns-in-Plain
returns-in-Plain c = let b = c.in-Plain.ensures in
    meeting.meets_belonged b.2
    (meeting.meets_show (λ v h. (b.0, b.1, h.1))
    (meeting.meets_inside reading.scope_after b.1.in_list c.scope_after-next.ensures))

pub returns-in-Wrapped : goal.returns-in-Wrapped
returns-in-Wrapped c = let b = c.in-Wrapped.ensures in
    meeting.meets_belonged b.2
    (meeting.meets_show (λ v h. (b.0, b.1, h.1))
    (meeting.meets_inside reading.any_scope b.1.in_list c.any_scope-next.ensures))
