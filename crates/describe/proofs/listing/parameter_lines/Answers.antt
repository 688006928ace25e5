use Prim.Native.Nat.{◌+◌}
use Rattle.parse.proofs.Inside.{meets_tells}
use Rattle.describe.proofs.Lined.{parameters, lined_start, lined-less, lined-more, lined_end}
use Rattle.describe.proofs.listing.parameter_lines.Goals as goal

pub loop-p-init : goal.loop-p-init
loop-p-init c = (0, lined_start (parameters c.args.angle) c.requires)

pub put_parameter-requires : goal.put_parameter-requires
put_parameter-requires c = let m = meets_tells (rw c.in-Ok-One.field-0-is at c.in-Ok-One.ensures) in
    (m.4.0, m.4.2)

pub loop-p-smaller : goal.loop-p-smaller
loop-p-smaller c = let q = parameters c.args.angle in
    lined-less q c.loop-p.invariant.1 (rw c.in-Ok-One.field-0-is at c.in-Ok-One.ensures) (λ v h. (h.0, h.1, h.2))

pub loop-p-preserved : goal.loop-p-preserved
loop-p-preserved c = let q = parameters c.args.angle in (
  c.loop-p.invariant.0 + 1,
  lined-more q c.loop-p.invariant.1 (rw c.in-Ok-One.field-0-is at c.in-Ok-One.ensures) (λ v h. (h.0, h.1, h.2))
      c.put_parameter.ensures c.parameter.auto.roles,
)

pub returns-in_default : goal.returns-in_default
returns-in_default c =
    lined_end (parameters c.args.angle) c.loop-p.invariant.1 c.parameter.result c.parameter.ensures (λ r e. cc)

pub returns-in_default-2 : goal.returns-in_default-2
returns-in_default-2 c =
    lined_end (parameters c.args.angle) c.loop-p.invariant.1 c.parameter.result c.parameter.ensures (λ r e. cc)
