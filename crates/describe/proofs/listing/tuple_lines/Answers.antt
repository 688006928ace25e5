use Rattle.describe.proofs.Lined.{tuple, lined_start, lined-less, lined-more, lined_end}
use Rattle.describe.proofs.listing.tuple_lines.Goals as goal

pub loop-next-init : goal.loop-next-init
loop-next-init c = lined_start tuple c.requires

pub loop-next-smaller : goal.loop-next-smaller
loop-next-smaller c =
    lined-less tuple c.loop-next.invariant (rw c.in-Ok-One.field-0-is at c.in-Ok-One.ensures)
    (λ v h. (h.0, h.1, tt {0}))

pub loop-next-preserved : goal.loop-next-preserved
loop-next-preserved c =
    lined-more tuple c.loop-next.invariant (rw c.in-Ok-One.field-0-is at c.in-Ok-One.ensures)
    (λ v h. (h.0, h.1, tt {0}))
    (λ a t. c.put_unnamed.ensures) c.tuple_field.auto.roles

pub returns-in_default : goal.returns-in_default
returns-in_default c =
    lined_end tuple c.loop-next.invariant c.tuple_field.result c.tuple_field.ensures (λ r e. cc)

pub returns-in_default-2 : goal.returns-in_default-2
returns-in_default-2 c =
    lined_end tuple c.loop-next.invariant c.tuple_field.result c.tuple_field.ensures (λ r e. cc)
