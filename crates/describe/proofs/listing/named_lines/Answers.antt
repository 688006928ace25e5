use Rattle.output.proofs.Writers.{writes_as}
use native.Mathlib.Omega.{arith}
use mathlib.Core.Path.{ap}
use Rattle.output.specs.Text.{decimal}
use Rattle.describe.proofs.Lined.{named, lined_start, lined-less, lined-more, lined_end}
use Rattle.describe.specs.Listing.{FIELD, line}
use Rattle.describe.proofs.listing.named_lines.Goals as goal

pub loop-name-init : goal.loop-name-init
loop-name-init c = lined_start named c.requires

pub loop-name-smaller : goal.loop-name-smaller
loop-name-smaller c =
    lined-less named c.loop-name.invariant (rw c.in-Ok-One.field-0-is at c.in-Ok-One.ensures) (λ v h. (h.0, h.1, h.2))

pub loop-name-preserved : goal.loop-name-preserved
loop-name-preserved c =
    lined-more named c.loop-name.invariant (rw c.in-Ok-One.field-0-is at c.in-Ok-One.ensures) (λ v h. (h.0, h.1, h.2))
    (λ a t. writes_as (ap (λ n. line FIELD n (decimal c.loop-name.count)) t.bytes) c.put_named.ensures)
    c.named_field.auto.roles

pub returns-in_default : goal.returns-in_default
returns-in_default c =
    lined_end named c.loop-name.invariant c.named_field.result c.named_field.ensures
    (λ r e. grind arith)

pub returns-in_default-2 : goal.returns-in_default-2
returns-in_default-2 c =
    lined_end named c.loop-name.invariant c.named_field.result c.named_field.ensures (λ r e. cc)
