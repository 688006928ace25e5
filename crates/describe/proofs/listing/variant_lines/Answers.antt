use mathlib.Core.Path.{◌∙◌}
use Rattle.output.proofs.Writers.{then}
use Rattle.parse.proofs.Inside.{meets_tells}
use Rattle.describe.proofs.Numbering.{variant_less, numbering_start, numbering-more}
use Rattle.describe.proofs.Numbering.{numbering-lacks, numbering_end, number_at}
use mir.Syntax.{w64}
use Rattle.std.proofs.Common.{FitsSigned, rules, to_z, of_z, sym, ap}
use Rattle.describe.specs.Numbers.{number}
use Rattle.std.proofs.lemmas.Int.{to_z-of_z}
use Rattle.describe.proofs.listing.variant_lines.Goals as goal

pub loop-v-init : goal.loop-v-init
loop-v-init c = numbering_start c.requires

pub number_after-requires : goal.number_after-requires
number_after-requires c = let m = meets_tells (rw c.in-Ok-One.field-0-is at c.in-Ok-One.ensures) in
    (m.4.0, m.4.2)

pub returns-in_default-number_after : goal.returns-in_default-number_after
returns-in_default-number_after c = let read = rw c.in-Ok-One.field-0-is at c.in-Ok-One.ensures in
    λ vs zs k q.
    numbering-lacks c.loop-v.invariant c.in-Ok-One.v read (c.number_after.ensures.number_as c.loop-v.c)
    c.in_default-number_after.is vs k zs q

pub put_variant-requires : goal.put_variant-requires
put_variant-requires c = let m = meets_tells (rw c.in-Ok-One.field-0-is at c.in-Ok-One.ensures) in
    (m.4.0, m.4.2)

pub field_lines-requires : goal.field_lines-requires
field_lines-requires c = let m = meets_tells (rw c.in-Ok-One.field-0-is at c.in-Ok-One.ensures) in
    (m.4.0.fields, m.4.2.fields)

pub loop-v-smaller : goal.loop-v-smaller
loop-v-smaller c = variant_less c.in-Ok-One.v (rw c.in-Ok-One.field-0-is at c.in-Ok-One.ensures)

pub loop-v-preserved : goal.loop-v-preserved
loop-v-preserved c =
    let fits : FitsSigned w64 c.in-Ok.n = search rules in
    let same = to_z-of_z w64 c.in-Ok.n fits in
    let read = rw c.in-Ok-One.field-0-is at c.in-Ok-One.ensures in
    numbering-more c.loop-v.invariant c.in-Ok-One.v read (to_z w64 (of_z w64 c.in-Ok.n))
    (λ a t p. number_at (c.number_after.ensures.number_as c.loop-v.c a t p) c.in-Ok.is ∙ ap number (sym same))
    (λ a t. then (c.put_variant.ensures a t) (c.field_lines.ensures a.fields t.fields))
    (c.field_lines.auto.roles ∙ c.variant.auto.roles)

pub returns-in_default : goal.returns-in_default
returns-in_default c = λ vs zs k q.
    numbering_end c.loop-v.invariant c.variant.result c.variant.ensures (λ r e. cc) vs k zs q

pub returns-in_default-2 : goal.returns-in_default-2
returns-in_default-2 c = λ vs zs k q.
    numbering_end c.loop-v.invariant c.variant.result c.variant.ensures (λ r e. cc) vs k zs q
