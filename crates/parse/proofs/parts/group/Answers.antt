use Rattle.parse.proofs.Bodies as bodies
use Rattle.parse.proofs.Meeting as meeting
use Rattle.parse.specs.Contract as contract
use Rattle.reading.specs.Reading as reading
use Rattle.parse.proofs.parts.group.Goals as goal

pub every-requires : goal.every-requires
every-requires g c =
    meeting.past_in_of _ _ _ _ c.take_token-inside.ensures.value c.requires.in_list c.requires.group_at.token

pub returns-in_err-d : goal.returns-in_err-d
returns-in_err-d g c =
    meeting.meets_given_up contract.count_said contract.count_shown c.from_residual.ensures.1
    (bodies.group_refused _ _ _ _ c.requires.in_list c.requires.group_at c.args.roles.now _
    c.take_token-inside.ensures.value c.take_token-inside.ensures.roles_after
    (reading.every (g.P.Parts.reading c.args.parts.now)) c.in_err-d.ensures)

pub close_group-requires-clause-in_list : goal.close_group-requires-clause-in_list
close_group-requires-clause-in_list g c = meeting.landed c.in_ok-d.ensures

pub close_group-requires-clause-at_value : goal.close_group-requires-clause-at_value
close_group-requires-clause-at_value g c =
    bodies.closing-follows _ _ _ _ c.requires.in_list c.requires.group_at c.args.roles.now _
    c.take_token-inside.ensures.value c.take_token-inside.ensures.roles_after c.in_ok-d.ensures

pub returns : goal.returns
returns g c =
    bodies.group_closed _ _ _ _ c.requires.in_list c.requires.group_at c.args.roles.now _
    c.take_token-inside.ensures.value c.take_token-inside.ensures.roles_after
    (reading.every (g.P.Parts.reading c.args.parts.now)) (g.met.P.Enclosed.to_the_end c.args.parts.now)
    c.in_ok-d.ensures c.close_group.ensures.roles_after c.close_group.ensures.skipped
