use Rattle.parse.proofs.Meeting as meeting
use Rattle.parse.specs.Contract as contract
use Rattle.reading.specs.Reading as reading
use Rattle.parse.proofs.Bodies as bodies
use Rattle.parse.proofs.Places as places
use Rattle.reading.specs.Took.{Point, ◌>>=◌}
use Rattle.reading.specs.Place.{past_token_lem}
use Rattle.reading.specs.Role as role
use lib.Seq.{slice}
use Rattle.token_list.proofs.Texts.{chosen, passed_over}
use borrow.Author.Tests.{eq-eqb, ne_eqb}
use mathlib.Core.Path.{subst, refl, ◌∙◌, ap}
use Rattle.parse.proofs.fields.named_field_at.Goals as goal

pub returns-in_err-visibility : goal.returns-in_err-visibility
returns-in_err-visibility c =
    meeting.meets_given_up contract.field_said (contract.field_shown c.args.s.now c.args.c) c.from_residual.ensures.1
    (meeting.meets_no (λ a. reading.visibility >>= reading.field_start a) c.in_err-visibility.ensures)

pub try_take-d-requires : goal.try_take-d-requires
try_take-d-requires c = meeting.landed c.in_ok-visibility.ensures

pub peek-requires : goal.peek-requires
peek-requires c = meeting.landed c.try_take-d.ensures

pub returns-then-t-ne105 : goal.returns-then-t-ne105
returns-then-t-ne105 c =
    bodies.meets_prefixed reading.field_start c.requires c.in_ok-visibility.ensures c.try_take-d.ensures
    (λ p h. meeting.meets_refused (reading.field_start p.attributes p.visibility) _ _
    (meeting.landed c.try_take-d.ensures) _ _ _ _ _
    c.in-Leaf.ensures.here (passed_over _ _ _ (ne_eqb _ _ c.if-t-ne105.true)))

pub take_token-after-requires-clause-in_list : goal.take_token-after-requires-clause-in_list
take_token-after-requires-clause-in_list c = meeting.landed c.try_take-d.ensures

pub field_after-requires : goal.field_after-requires
field_after-requires c =
    meeting.past_in_of _ _ _ _ c.take_token-after.ensures.value (meeting.landed c.try_take-d.ensures)
    c.in-Leaf.ensures.token

pub returns-in_err-typed-in-Leaf : goal.returns-in_err-typed-in-Leaf
returns-in_err-typed-in-Leaf c =
    let text = slice c.in-Leaf.t.start c.in-Leaf.t.end c.args.s.now in
    meeting.meets_given_up contract.field_said (contract.field_shown c.args.s.now c.args.c)
    c.from_residual-in_err-typed-in-Leaf.ensures.1
    (bodies.meets_prefixed reading.field_start c.requires c.in_ok-visibility.ensures c.try_take-d.ensures
    (λ p h. meeting.meets_from (reading.field_start p.attributes p.visibility) _ _
    (meeting.landed c.try_take-d.ensures) _ _ c.in-Leaf.ensures
    _ _ _ _ c.take_token-after.ensures.value c.take_token-after.ensures.roles_after _ _
    (reading.field_after p.attributes p.visibility text) (chosen _ _ _ (eq-eqb _ _ c.if-t-ne105.false))
    (meeting.meets_none (c.in_err-typed-in-Leaf.ensures p text))))

pub returns-in-Nothing : goal.returns-in-Nothing
returns-in-Nothing c =
    bodies.meets_prefixed reading.field_start c.requires c.in_ok-visibility.ensures c.try_take-d.ensures
    (λ p h. meeting.meets_same (reading.field_start p.attributes p.visibility) _ _
    (meeting.landed c.try_take-d.ensures) _ _ _ _ c.in-Nothing.ensures refl (refl, (p, h.0)))

pub returns-in-Group : goal.returns-in-Group
returns-in-Group c =
    bodies.meets_prefixed reading.field_start c.requires c.in_ok-visibility.ensures c.try_take-d.ensures
    (λ p h. meeting.meets_refused (reading.field_start p.attributes p.visibility) _ _
    (meeting.landed c.try_take-d.ensures) _ _ _ _ _ c.in-Group.ensures.here refl)

pub returns-in_ok-typed-in-Leaf : goal.returns-in_ok-typed-in-Leaf
returns-in_ok-typed-in-Leaf c =
    let l = c.in-Leaf.ensures in
    let text = slice c.in-Leaf.t.start c.in-Leaf.t.end c.args.s.now in
    let landed = meeting.landed c.try_take-d.ensures in
    let past = (places.token_past _ _ _ _ landed l c.take_token-after.ensures.value).here in
    bodies.meets_prefixed reading.field_start c.requires c.in_ok-visibility.ensures c.try_take-d.ensures
    (λ p h. meeting.meets_from (reading.field_start p.attributes p.visibility) _ _ landed _ _ l
    _ _ _ _ c.take_token-after.ensures.value c.take_token-after.ensures.roles_after _ _
    (reading.field_after p.attributes p.visibility text) (chosen _ _ _ (eq-eqb _ _ c.if-t-ne105.false))
    (meeting.meets_show
    (λ v k.
    let start = h.1.here in
    let typed_at = ap past_token_lem (past ∙ ap past_token_lem start) in (
      _,
      k.1,
      record { bytes = refl; within = meeting.token_within _ _ _ l.token },
      subst (λ (x : Point). contract.TokenIn c.args.s.now x.row c.in-Leaf.t) start
          (places.token_in _ _ _ landed l.token),
      record {
        prefix = h.0;
        type =
            subst (λ (x : Point). contract.RunAt c.args.s.now reading.field_stops role.type x
            c.in_ok-typed-in-Leaf.typed.run k.0)
            typed_at k.2;
      },
    ))
    (c.in_ok-typed-in-Leaf.ensures p text)))
