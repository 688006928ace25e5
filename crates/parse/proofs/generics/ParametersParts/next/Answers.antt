use Rattle.parse.proofs.Meeting as meeting
use Rattle.parse.specs.Contract as contract
use Rattle.reading.specs.Place.{parameter_name_at}
use Rattle.parse.proofs.generics.ParametersParts.next.Goals as goal

pub returns-in_err-p : goal.returns-in_err-p
returns-in_err-p c =
    meeting.meets_given_up contract.next_said contract.next_shown c.from_residual.ensures.1
    (meeting.meets_none c.in_err-p.ensures)

pub returns-in-One : goal.returns-in-One
returns-in-One c =
    meeting.meets_show (λ v h. (h.0, h.1))
    (meeting.meets_matched contract.parameter_said (contract.parameter_shown c.args.s.now (parameter_name_at
    (contract.point c.args.s.now c.args.c))) c.in-One.is c.in_ok-p.ensures)

pub returns-in-Done : goal.returns-in-Done
returns-in-Done c = meeting.meets_matched contract.parameter_said (contract.parameter_shown c.args.s.now
    (parameter_name_at (contract.point c.args.s.now c.args.c))) c.in-Done.is c.in_ok-p.ensures
