use mathlib.Core.Path.{sym, ap}
use Prim.Native.Nat.{◌+◌}
use Rattle.reading.specs.Place.{literal_row}
use Rattle.parse.proofs.Bodies as bodies
use Rattle.parse.proofs.Meeting as meeting
use Rattle.parse.specs.Contract as contract
use Rattle.parse.proofs.variants.variant_value.Goals as goal

pub returns-in_err-value : goal.returns-in_err-value
returns-in_err-value c =
    meeting.meets_given_up contract.value_said (contract.value_shown c.args.s.now (literal_row (c.args.c.row + 1)))
    c.from_residual.ensures.1 (meeting.meets_no bodies.comma_after c.in_err-value.ensures)

pub consume_punct_if-requires-clause-in_list : goal.consume_punct_if-requires-clause-in_list
consume_punct_if-requires-clause-in_list c = meeting.landed c.in_ok-value.ensures

pub returns : goal.returns
returns c =
    meeting.meets_say (ap contract.on (sym c.unwrap_or-next.ensures))
    (meeting.meets_then bodies.comma_after c.in_ok-value.ensures
    (λ a h. meeting.meets_map _ (λ u. a) (λ u k. h) c.consume_punct_if.ensures.meets))
