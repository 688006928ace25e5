use Rattle.parse.proofs.Meeting as meeting
use Rattle.parse.specs.Contract as contract
use Rattle.reading.specs.Reading as reading
use Rattle.parse.proofs.Places as places
use Rattle.reading.specs.Took.{Took, ◌>>=◌, pure, Point, beyond}
use Rattle.reading.specs.Declaration as declaration
use Rattle.token_list.specs.Stream.{Trees}
use Prim.Native.Nat.{ℕ}
use mathlib.Core.Path.{sym, ◌∙◌, ap, subst}
use Rattle.parse.proofs.item.parts.Goals as goal

abbrev made : contract.Prefix → reading.Head → declaration.Generics → declaration.Constraints → declaration.Body →
    declaration.Declaration
made p h g l b =
    record {
      attributes = p.attributes;
      visibility = p.visibility;
      kind = h.kind;
      name = h.name;
      generics = g;
      clause = l;
      body = b;
    }

abbrev body-then : contract.Prefix → reading.Head → declaration.Generics → declaration.Constraints → ℕ → Trees →
    declaration.Kind → Took declaration.Declaration
body-then p h g l row ts k = (reading.body_of k >>= λ b. pure (made p h g l b)) row ts

pub returns-in_err-d : goal.returns-in_err-d
returns-in_err-d c = λ x p h w.
    meeting.meets_given_up contract.item_said (contract.parts_shown c.args.s.now x) c.from_residual.ensures.1
    (meeting.meets_no _ c.in_err-d.ensures)

pub try_take_constraints-requires : goal.try_take_constraints-requires
try_take_constraints-requires c = meeting.landed c.in_ok-d.ensures

pub returns-in_err-clause : goal.returns-in_err-clause
returns-in_err-clause c = λ x p h w.
    meeting.meets_given_up contract.item_said (contract.parts_shown c.args.s.now x)
    c.from_residual-in_err-clause.ensures.1
    (meeting.meets_then _ c.in_ok-d.ensures (λ g _. meeting.meets_no _ c.in_err-clause.ensures))

pub body-requires : goal.body-requires
body-requires c = meeting.landed c.in_ok-clause.ensures

pub returns-in_err-next : goal.returns-in_err-next
returns-in_err-next c = λ x p h w.
    meeting.meets_given_up contract.item_said (contract.parts_shown c.args.s.now x)
    c.from_residual-in_err-next.ensures.1
    (meeting.meets_then _ c.in_ok-d.ensures (λ g _. meeting.meets_then _ c.in_ok-clause.ensures
    (λ l _. meeting.meets_as (ap (body-then p h g l _ _) (sym w.kind)) (meeting.meets_no _ c.in_err-next.ensures))))

pub returns : goal.returns
returns c = let generics = c.in_ok-d.ensures in
    let clauses = c.in_ok-clause.ensures in
    let past = (places.meets_beyond reading.generics generics).here in
    let ended = places.meets_beyond reading.clause clauses in
    λ x p h w.
    let clause-at = past ∙ ap (beyond reading.generics) w.next.here in
    meeting.meets_then _ (meeting.meets_inside reading.generics c.requires generics)
    (λ g i. meeting.meets_then _ clauses
    (λ l k. meeting.meets_as (ap (body-then p h g l _ _) (sym w.kind))
    (meeting.meets_map _ (made p h g l)
    (λ b j. (
      record {
        kind = sym w.kind;
        name = w.name.text;
        parameters = i.0;
        count = j.0;
        generics = i.1;
        body = j.1;
      },
      record {
        prefix = w.prefix;
        name = w.name;
        generics = w.next;
        clause = subst (λ (y : Point). contract.ClauseOf c.args.s.now y l c.in_ok-clause.clause) clause-at k;
        body = places.cursor_at (ap (beyond reading.clause) clause-at) ended;
      },
    ))
    (meeting.meets_inside (reading.body_of (contract.kind_of c.args.kind)) (meeting.landed clauses)
    c.in_ok-next.ensures))))
