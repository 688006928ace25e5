use mathlib.Core.Path.{ap, sym}
use Rattle.parse.proofs.Meeting as meeting
use Rattle.parse.specs.Contract as contract
use Rattle.parse.proofs.Bodies as bodies
use Rattle.parse.proofs.fields.field_type.Goals as goal

pub returns-in_err-run : goal.returns-in_err-run
returns-in_err-run c =
    meeting.meets_given_up contract.type_said
    (contract.type_at_shown c.args.s.now (contract.point c.args.s.now c.args.c)) c.from_residual.ensures.1
    (meeting.meets_no bodies.comma_after c.in_err-run.ensures)

pub consume_punct_if-requires-clause-in_list : goal.consume_punct_if-requires-clause-in_list
consume_punct_if-requires-clause-in_list c = meeting.landed c.in_ok-run.ensures

pub returns : goal.returns
returns c =
    meeting.meets_say (ap contract.on (sym c.unwrap_or-next.ensures))
    (meeting.meets_then bodies.comma_after c.in_ok-run.ensures
    (λ t h. meeting.meets_map _ (λ u. t) (λ u k. h.1) c.consume_punct_if.ensures.meets))
