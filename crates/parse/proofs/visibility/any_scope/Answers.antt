use Rattle.parse.proofs.Meeting as meeting
use Rattle.reading.specs.Reading as reading
use mathlib.Core.Path.{refl}
use Rattle.parse.proofs.visibility.any_scope.Goals as goal

pub returns-in-Nothing : goal.returns-in-Nothing
returns-in-Nothing c =
    meeting.meets_no_group reading.any_scope _ c.requires c.peek.ensures c.in-Nothing.is refl (λ r us. refl) tt

pub returns-in-Group : goal.returns-in-Group
returns-in-Group c =
    meeting.meets_group reading.any_scope _ _ c.requires _ _ c.in-Group.ensures _ _ _ _ c.take_group.ensures _ refl tt
