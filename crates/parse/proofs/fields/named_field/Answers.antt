use Rattle.parse.proofs.Meeting as meeting
use Rattle.parse.specs.Contract as contract
use Rattle.parse.proofs.fields.named_field.Goals as goal

pub returns-in_err-f : goal.returns-in_err-f
returns-in_err-f c =
    meeting.meets_given_up contract.named_said (contract.named_shown c.args.s.now c.args.c) c.from_residual.ensures.1
    (meeting.meets_none c.in_err-f.ensures)

pub returns-in-One : goal.returns-in-One
returns-in-One c = meeting.meets_show (λ v h. (h.0, h.1, h.2, h.3))
    (meeting.meets_matched contract.field_said (contract.field_shown c.args.s.now c.args.c) c.in-One.is
    c.in_ok-f.ensures)

pub returns-in-Done : goal.returns-in-Done
returns-in-Done c = meeting.meets_show (λ v h. h.0)
    (meeting.meets_matched contract.field_said (contract.field_shown c.args.s.now c.args.c) c.in-Done.is
    c.in_ok-f.ensures)
