use Rattle.parse.proofs.Meeting as meeting
use Rattle.parse.specs.Contract.{on}
use Rattle.reading.specs.Reading as reading
use Rattle.reading.specs.Took.{pure}
use mathlib.Core.Path.{refl, ap, sym}
use Rattle.parse.proofs.generics.parameter_end.Goals as goal

pub returns : goal.returns
returns c = λ a x h place at.
    meeting.meets_say (ap on (sym c.unwrap_or-next.ensures))
    (meeting.meets_then (λ t. pure (reading.one a)) c.consume_punct_if.ensures.meets
    (λ t e. meeting.meets_stay _ _ _ _ (reading.one a) (meeting.landed c.consume_punct_if.ensures.meets)
    (a, refl, h, place, at)))
