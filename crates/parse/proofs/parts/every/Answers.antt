use Rattle.parse.proofs.Meeting as meeting
use Rattle.parse.specs.Contract as contract
use Rattle.parse.proofs.Loops.{rounds-start, rounds-more, rounds_done, rounds_refused}
use native.Mathlib.Omega.{arith}
use Rattle.parse.proofs.parts.every.Goals as goal

pub loop-next-init : goal.loop-next-init
loop-next-init g c = rounds-start _ _ _ _ c.requires

pub next-requires : goal.next-requires
next-requires g c = c.loop-next.invariant.gathering.moved.in_list

pub returns-in_err-next : goal.returns-in_err-next
returns-in_err-next g c =
    meeting.meets_given_up contract.count_said contract.count_shown c.from_residual.ensures.1
    (rounds_refused _ (g.met.P.Parts.goes_on c.args.parts.now) c.loop-next.invariant c.in_err-next.ensures)

pub overflow_add-count : goal.overflow_add-count
overflow_add-count g c =
    omega (arith, c.loop-next.invariant.few, c.loop-next.invariant.gathering.moved.in_list.within)

pub loop-next-smaller : goal.loop-next-smaller
loop-next-smaller g c =
    let n = rounds-more _ (g.met.P.Parts.goes_on c.args.parts.now) c.loop-next.invariant
    (meeting.meets_matched contract.next_said contract.next_shown c.in-One.is c.in_ok-next.ensures) in
    omega (arith, n.1, n.0.gathering.moved.in_list.within)

pub loop-next-preserved : goal.loop-next-preserved
loop-next-preserved g c =
    (rounds-more _ (g.met.P.Parts.goes_on c.args.parts.now) c.loop-next.invariant
    (meeting.meets_matched contract.next_said contract.next_shown c.in-One.is c.in_ok-next.ensures)).0

pub returns-in-Done : goal.returns-in-Done
returns-in-Done g c =
    rounds_done _ (g.met.P.Parts.goes_on c.args.parts.now) c.loop-next.invariant
    (meeting.meets_matched contract.next_said contract.next_shown c.in-Done.is c.in_ok-next.ensures)
