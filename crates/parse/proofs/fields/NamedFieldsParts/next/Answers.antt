use Rattle.parse.proofs.Meeting as meeting
use Rattle.parse.specs.Contract as contract
use Rattle.parse.proofs.fields.NamedFieldsParts.next.Goals as goal

pub returns-in_err-next : goal.returns-in_err-next
returns-in_err-next c =
    meeting.meets_given_up contract.next_said contract.next_shown c.from_residual.ensures.1
    (meeting.meets_none c.in_err-next.ensures)

pub returns-in-One : goal.returns-in-One
returns-in-One c =
    meeting.meets_show (λ v h. (h.0, h.1))
    (meeting.meets_matched contract.named_said (contract.named_shown c.args.s.now c.args.c) c.in-One.is
    c.in_ok-next.ensures)

pub returns-in-Done : goal.returns-in-Done
returns-in-Done c = meeting.meets_matched contract.named_said (contract.named_shown c.args.s.now c.args.c)
    c.in-Done.is c.in_ok-next.ensures
