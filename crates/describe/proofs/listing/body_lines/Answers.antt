use mathlib.Core.Path.{◌∙◌, ap, sym, subst}
use Rattle.output.proofs.Writers.{unwritten, writes_as}
use Rattle.parse.proofs.Meeting as meeting
use Rattle.parse.specs.Contract as contract
use Rattle.reading.specs.Reading as reading
use Rattle.describe.specs.Numbers.{body_numbers}
use Rattle.describe.specs.Listing.{body_lines}
use Rattle.describe.proofs.Parts.{struct_group, enum_group, body_none}
use Rattle.describe.proofs.listing.body_lines.Goals as goal

pub struct_lines-requires : goal.struct_lines-requires
struct_lines-requires c =
    meeting.past_in_of _ _ _ _ c.past-inside.ensures c.requires c.in-Group.ensures.token

pub variant_lines-requires : goal.variant_lines-requires
variant_lines-requires c =
    meeting.past_in_of _ _ _ _ c.past-inside.ensures c.requires c.in-Group.ensures.token

pub returns-in_default : goal.returns-in_default
returns-in_default c = λ b zs k q.
    writes_as (body_none (contract.kind_of c.args.d.kind) zs c.peek.result
    (record { stands = c.peek.ensures; none = c.in_default.not-Group }) k) unwritten

pub returns-in-Struct : goal.returns-in-Struct
returns-in-Struct c = let group = c.in-Group.ensures in
    λ b zs k q.
    let known = subst (λ kd. contract.InsideAt (reading.body_of (contract.kind_of kd)) c.args.s.now c.args.d.body b)
    c.in-Struct.is k in
    let g = struct_group known _ _ group c.past-inside.ensures in
    writes_as (ap (body_lines zs) g.1) (c.struct_lines.ensures g.0 g.2)

pub returns-in-Enum : goal.returns-in-Enum
returns-in-Enum c = let group = c.in-Group.ensures in
    λ b zs k q.
    let known = subst (λ kd. contract.InsideAt (reading.body_of (contract.kind_of kd)) c.args.s.now c.args.d.body b)
    c.in-Enum.is k in
    let g = enum_group known _ _ group c.past-inside.ensures in
    writes_as (ap (body_lines zs) g.1) (c.variant_lines.ensures g.0 zs g.2 (sym (ap body_numbers g.1) ∙ q))
