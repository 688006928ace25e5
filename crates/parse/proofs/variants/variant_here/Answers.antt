use Rattle.parse.proofs.Meeting as meeting
use Rattle.parse.specs.Contract as contract
use Rattle.reading.specs.Reading as reading
use Rattle.reading.specs.Place.{VariantHead, variant_head, literal_row}
use Rattle.parse.proofs.Places as places
use Rattle.parse.proofs.Bodies as bodies
use Rattle.reading.specs.Took.{Reader, after, ◌>>=◌, pure, Point, beyond}
use Rattle.reading.specs.Declaration.{Fields, Value, Variant}
use Rattle.reading.specs.Role as role
use Rattle.token_list.specs.Stream.{Trees}
use Prim.Native.Nat.{ℕ, ◌+◌}
use mathlib.Core.Path.{◌≡◌, refl, sym, ◌∙◌, ap, subst, fun_ext}
use Rattle.parse.proofs.variants.variant_here.Goals as goal

abbrev made : VariantHead → Fields → Value → Variant
made h f v = record { attributes = h.attributes; name = h.name; fields = f; value = v }

abbrev value-then : VariantHead → Fields → Reader (reading.Maybe Variant)
value-then h f = reading.value_if >>= λ v. reading.comma (made h f v)

abbrev rest : VariantHead → Reader (reading.Maybe Variant)
rest h = reading.variant_fields >>= value-then h

-- the attributes and the name, and then the rest
split : (row : ℕ) (ts : Trees) → reading.variant_here row ts ≡ after row (variant_head row ts) rest
split row ts =
    ap (after row (reading.attributes row ts)) (fun_ext (λ a. fun_ext (λ r. fun_ext (λ us.
    ap (after r (reading.word role.variant-name r us)) (fun_ext (λ w. fun_ext (λ q. fun_ext (λ vs.
    sym (meeting.after-pure q (reading.named! w q vs) (λ n. record { attributes = a; name = n }) rest)))))
    ∙ sym (meeting.after_assoc r (reading.word role.variant-name r us)
    (λ w. reading.named! w >>= λ n. pure (record { attributes = a; name = n })) rest)))))
    ∙ sym (meeting.after_assoc row (reading.attributes row ts)
    (λ a. reading.word role.variant-name >>= λ w. reading.named! w >>= λ n. pure (record { attributes = a; name = n }))
    rest)

pub variant_fields-requires : goal.variant_fields-requires
variant_fields-requires c = meeting.landed c.in_ok-name.ensures

pub variant_value-requires : goal.variant_value-requires
variant_value-requires c = meeting.landed c.in_ok-fields.ensures

pub returns-in_err-name : goal.returns-in_err-name
returns-in_err-name c =
    meeting.meets_given_up contract.variant_said (contract.variant_shown c.args.s.now c.args.c)
    c.from_residual.ensures.1
    (meeting.meets_as (split c.args.c.row (contract.stream c.args.s.now c.args.c))
    (meeting.meets_no rest c.in_err-name.ensures))

pub returns-in_err-fields : goal.returns-in_err-fields
returns-in_err-fields c =
    meeting.meets_given_up contract.variant_said (contract.variant_shown c.args.s.now c.args.c)
    c.from_residual-in_err-fields.ensures.1
    (meeting.meets_as (split c.args.c.row (contract.stream c.args.s.now c.args.c))
    (meeting.meets_then rest c.in_ok-name.ensures
    (λ h k. meeting.meets_no (value-then h) c.in_err-fields.ensures)))

pub returns-in_err-value : goal.returns-in_err-value
returns-in_err-value c =
    let d = c.in_ok-fields.d in
    meeting.meets_given_up contract.variant_said (contract.variant_shown c.args.s.now c.args.c)
    c.from_residual-in_err-value.ensures.1
    (meeting.meets_as (split c.args.c.row (contract.stream c.args.s.now c.args.c))
    (meeting.meets_then rest c.in_ok-name.ensures
    (λ h k. meeting.meets_then (value-then h) c.in_ok-fields.ensures
    (λ f g. meeting.meets_as
    (bodies.comma_as d.row (reading.value_if d.row (contract.stream c.args.s.now d)) (made h f))
    (meeting.meets_no _ c.in_err-value.ensures)))))

pub returns : goal.returns
returns c =
    let d = c.in_ok-fields.d in
    let group = (places.meets_beyond variant_head c.in_ok-name.ensures).here in
    let equals = (places.meets_beyond reading.variant_fields c.in_ok-fields.ensures).here
    ∙ ap (beyond reading.variant_fields) group in
    meeting.meets_as (split c.args.c.row (contract.stream c.args.s.now c.args.c))
    (meeting.meets_then rest c.in_ok-name.ensures
    (λ h k. meeting.meets_then (value-then h) c.in_ok-fields.ensures
    (λ f g. meeting.meets_as
    (bodies.comma_as d.row (reading.value_if d.row (contract.stream c.args.s.now d)) (made h f))
    (meeting.meets_map d.row (λ v. reading.one (made h f v))
    (λ v w. (
      made h f v,
      refl,
      record { name = k.1.text; fields = g.0; value = w.0 },
      record {
        attributes = k.0;
        name = k.1;
        fields = subst (λ (x : Point). contract.FieldsIn x.row c.in_ok-fields.fields) group g.1;
        value = subst (λ (x : Point). contract.ValueIn c.args.s.now (literal_row (x.row + 1) v)
            c.in_ok-value.value) equals w.1;
      },
    ))
    c.in_ok-value.ensures))))
