use Rattle.parse.proofs.Meeting as meeting
use Rattle.parse.specs.Contract as contract
use Rattle.reading.specs.Reading as reading
use Rattle.parse.proofs.Bodies as bodies
use Rattle.reading.specs.Took.{Reader, ◌>>=◌, Point}
use Rattle.reading.specs.Declaration.{Visibility, UnnamedField}
use Rattle.reading.specs.Role as role
use Rattle.token_list.specs.Stream.{Trees, first_kind_lem}
use mathlib.Core.List.{List}
use mathlib.Core.Path.{◌≡◌, refl, subst, ap, ◌∙◌}
use Prim.Native.Nat.{ℕ}
use Rattle.parse.proofs.Looks.{as_type}
use Rattle.parse.proofs.fields.tuple_field_at.Goals as goal

abbrev made : contract.Prefix → Trees → UnnamedField
made p t = record { attributes = p.attributes; visibility = p.visibility; type = t }

abbrev type-then : List Trees → Visibility → Reader (reading.Maybe UnnamedField)
type-then a v =
    reading.run reading.field_stops role.type >>=
    λ t. reading.comma (made (record { attributes = a; visibility = v }) t)

-- a field, where a look has found something
here : (row : ℕ) (ts : Trees) {k : ℕ} → k ≡ first_kind_lem ts → (k ≡ 0 → ⊥) →
    reading.tuple_field row ts ≡ reading.tuple_type row ts
here row ts e n = as_type row ts (λ h. n (e ∙ ap first_kind_lem h))

pub returns-then-look-eq0 : goal.returns-then-look-eq0
returns-then-look-eq0 c =
    meeting.meets_same reading.tuple_field c.args.s.now c.args.c c.requires _ _ _ _
    (c.look.ensures.none c.if-look-eq0.true) refl refl

pub returns-in_err-visibility : goal.returns-in_err-visibility
returns-in_err-visibility c =
    let field = here c.args.c.row (contract.stream c.args.s.now c.args.c) c.look.ensures.kind c.if-look-eq0.false in
    meeting.meets_given_up contract.unnamed_said (contract.unnamed_shown c.args.s.now c.args.c)
    c.from_residual.ensures.1
    (meeting.meets_as field
    (meeting.meets_no (λ a. reading.visibility >>= type-then a) c.in_err-visibility.ensures))

pub try_take-d-requires : goal.try_take-d-requires
try_take-d-requires c = meeting.landed c.in_ok-visibility.ensures

pub field_type-requires : goal.field_type-requires
field_type-requires c = meeting.landed c.try_take-d.ensures

pub returns-in_err-typed : goal.returns-in_err-typed
returns-in_err-typed c =
    let field = here c.args.c.row (contract.stream c.args.s.now c.args.c) c.look.ensures.kind c.if-look-eq0.false in
    let d = c.try_take-d.result in
    meeting.meets_given_up contract.unnamed_said (contract.unnamed_shown c.args.s.now c.args.c)
    c.from_residual-in_err-typed.ensures.1
    (meeting.meets_as field
    (bodies.meets_prefixed type-then c.requires c.in_ok-visibility.ensures c.try_take-d.ensures
    (λ p h. meeting.meets_as
    (bodies.comma_as d.row (reading.run reading.field_stops role.type d.row (contract.stream c.args.s.now d)) (made p))
    (meeting.meets_no _ c.in_err-typed.ensures))))

pub returns : goal.returns
returns c =
    let field = here c.args.c.row (contract.stream c.args.s.now c.args.c) c.look.ensures.kind c.if-look-eq0.false in
    let d = c.try_take-d.result in
    meeting.meets_as field
    (bodies.meets_prefixed type-then c.requires c.in_ok-visibility.ensures c.try_take-d.ensures
    (λ p h. meeting.meets_as
    (bodies.comma_as d.row (reading.run reading.field_stops role.type d.row (contract.stream c.args.s.now d)) (made p))
    (meeting.meets_map d.row (λ f. reading.one (made p f))
    (λ f k. (
      made p f,
      refl,
      record {
        prefix = h.0;
        type = subst
            (λ (x : Point). contract.RunAt c.args.s.now reading.field_stops role.type x c.in_ok-typed.typed.run f)
            h.1.here k;
      },
    ))
    c.in_ok-typed.ensures)))
