use Rattle.parse.proofs.Meeting as meeting
use Rattle.parse.specs.Contract as contract
use Rattle.reading.specs.Reading as reading
use Rattle.parse.proofs.Places as places
use Rattle.reading.specs.Took.{Reader, Point}
use Rattle.reading.specs.Role as role
use Rattle.token_list.specs.Stream.{Trees}
use mathlib.Core.Bool.{Bool, false≢true}
use mathlib.Core.Path.{refl, sym, ◌∙◌, ap, subst}
use Rattle.parse.proofs.generics.optional_run.Goals as goal

abbrev run_or : Bool → Reader Trees
run_or t = reading.run_if t reading.parameter_stops role.bound

pub returns-in_default : goal.returns-in_default
returns-in_default c =
    meeting.meets_then run_or c.in_default.ensures.meets
    (λ t e. meeting.meets_as (ap (λ x. run_or x c.args.c.row (contract.stream c.args.s.now c.args.c)) (sym e))
    (meeting.meets_stay _ _ _ _ _ c.requires.in_list
    (λ k. (refl, refl), λ k. absurd (false≢true (c.in_default.ensures.taken_value ∙ k)))))

pub read_tokens_until_punct-requires : goal.read_tokens_until_punct-requires
read_tokens_until_punct-requires c = meeting.landed c.in-Some.ensures.meets

pub returns-in_err-run : goal.returns-in_err-run
returns-in_err-run c = let s = c.args.s.now in
    meeting.meets_given_up contract.parameter_run_said
    (contract.optional_run_shown s c.args.punct c.args.part (contract.point s c.args.c)) c.from_residual.ensures.1
    (meeting.meets_then run_or c.in-Some.ensures.meets
    (λ t e. meeting.meets_as
    (ap (λ x. run_or x c.in-Some.next.row (contract.stream c.args.s.now c.in-Some.next)) (sym e))
    (meeting.meets_none c.in_err-run.ensures)))

pub returns : goal.returns
returns c = let s = c.args.s.now in
    let run = c.in_ok-run.run' in
    let there = sym c.in-Some.ensures.taken_value in
    let past = (places.meets_beyond (reading.punct_if c.args.punct role.separator) c.in-Some.ensures.meets).here ∙
    places.punct_past c.args.punct role.separator (contract.point s c.args.c) there in
    meeting.meets_then run_or c.in-Some.ensures.meets
    (λ t e. meeting.meets_as (ap (λ x. run_or x c.in-Some.next.row (contract.stream s c.in-Some.next)) (sym e))
    (meeting.meets_show
    (λ v h.
    let here = subst (λ (x : Point). contract.RunAt s reading.parameter_stops role.bound x run v) past h.1 in
    (λ k. absurd (false≢true (sym k ∙ there)), λ k. (refl, (there, here)))) c.in_ok-run.ensures))
