use Rattle.parse.proofs.Meeting as meeting
use Rattle.parse.specs.Contract as contract
use Rattle.reading.specs.Reading as reading
use Rattle.parse.proofs.Bodies as bodies
use Rattle.parse.proofs.Places as places
use Rattle.reading.specs.Took.{Reader, ◌>>=◌, Point}
use Rattle.reading.specs.Declaration.{Field}
use Rattle.reading.specs.Role as role
use Rattle.token_list.specs.Byte.{COLON}
use Rattle.token_list.specs.Stream.{Trees}
use Prim.Native.Nat.{ℕ}
use mathlib.Core.List.{List}
use mathlib.Core.Bool.{Bool}
use mathlib.Core.Path.{refl, sym, ◌∙◌, ap, subst}
use Rattle.parse.proofs.fields.field_after.Goals as goal

abbrev made : contract.Prefix → List ℕ → Trees → Field
made p n f = record { name = n; field = record { attributes = p.attributes; visibility = p.visibility; type = f } }

-- the type, after the `:`
abbrev typed : contract.Prefix → List ℕ → Reader (reading.Maybe Field)
typed p n = reading.run reading.field_stops role.type >>= λ f. reading.comma (made p n f)

abbrev colon : contract.Prefix → List ℕ → Bool → Reader (reading.Maybe Field)
colon p n t = reading.must 23 t >>= λ u. typed p n

pub returns-in_default : goal.returns-in_default
returns-in_default c = λ p n.
    meeting.meets_then (colon p n) c.in_default.ensures.meets
    (λ t e. meeting.meets_as
    (ap (λ x. colon p n x c.args.c.row (contract.stream c.args.s.now c.args.c)) (sym e))
    (meeting.meets_wrong _ _ c.wrong_token.ensures))

pub field_type-requires : goal.field_type-requires
field_type-requires c = meeting.landed c.in-Some.ensures.meets

pub returns : goal.returns
returns c = let ts = contract.stream c.args.s.now c.in-Some.next in
    let past = (places.meets_beyond (reading.punct_if COLON role.separator) c.in-Some.ensures.meets).here ∙
    places.punct_past COLON role.separator (contract.point c.args.s.now c.args.c) (sym c.in-Some.ensures.taken_value) in
    λ p n. meeting.meets_then (colon p n) c.in-Some.ensures.meets
    (λ t e. meeting.meets_as
    (ap (λ x. colon p n x c.in-Some.next.row ts) (sym e) ∙
    meeting.pure_then (tt {0}) (λ u. typed p n) c.in-Some.next.row ts)
    (meeting.meets_as
    (bodies.comma_as c.in-Some.next.row (reading.run reading.field_stops role.type c.in-Some.next.row ts) (made p n))
    (meeting.meets_map c.in-Some.next.row (λ f. reading.one (made p n f))
    (λ f k. (f, refl, subst (λ (x : Point). contract.type_at_shown c.args.s.now x c.field_type.result f) past k))
    c.field_type.ensures)))
