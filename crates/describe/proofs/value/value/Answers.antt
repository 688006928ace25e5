use mathlib.Core.Path.{ap, subst, subst⁻¹}
use Rattle.parse.proofs.Meeting as meeting
use Rattle.parse.specs.Contract as contract
use Rattle.reading.specs.Reading as reading
use Rattle.describe.proofs.Parts.{struct_value, enum_group, enum_none, inside-point}
use Rattle.describe.specs.Contract.{ValueAs}
use Rattle.reading.specs.Place.{variant_at}
use Rattle.describe.specs.Value.{body_value}
use Rattle.describe.proofs.value.value.Goals as goal

pub find-requires : goal.find-requires
find-requires c = meeting.past_in_of _ _ _ _ c.past-inside.ensures c.requires
    c.in-Group.ensures.token

pub returns-in_default : goal.returns-in_default
returns-in_default c = λ b i.
    let body = subst (λ kd. contract.InsideAt (reading.body_of (contract.kind_of kd)) c.args.s.now c.args.d.body b)
    c.in_default.is i in
    record { value = struct_value _ body; place = tt }

pub returns-in_default-peek : goal.returns-in_default-peek
returns-in_default-peek c = λ b i.
    let body = subst (λ kd. contract.InsideAt (reading.body_of (contract.kind_of kd)) c.args.s.now c.args.d.body b)
    c.in-Enum.is i in
    let none = enum_none c.peek.result (record { stands = c.peek.ensures; none = c.in_default-peek.not-Group }) body in
    record { value = ap (body_value c.args.position) none; place = tt }

pub returns : goal.returns
returns c = let group = c.in-Group.ensures in
    λ b i.
    let body = subst (λ kd. contract.InsideAt (reading.body_of (contract.kind_of kd)) c.args.s.now c.args.d.body b)
    c.in-Enum.is i in
    let g = enum_group body _ _ group c.past-inside.ensures in
    let there = inside-point c.args.s.now c.args.d.body c.past-inside.result _ group c.past-inside.ensures in
    subst (λ x. ValueAs c.args.s.now (variant_at c.args.position x) c.find.result (body_value c.args.position b)) there
    (subst⁻¹ (λ x. ValueAs c.args.s.now (variant_at c.args.position (contract.point c.args.s.now c.past-inside.result))
    c.find.result
    (body_value c.args.position x)) g.1
    (c.find.ensures g.0 g.2))
