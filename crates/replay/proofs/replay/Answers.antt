use mathlib.Core.Path.{ap, ◌∙◌, subst}
use native.Mathlib.Omega.{arith}
use lib.ListN.{length}
use Rattle.std.specs.Prelude.{Some}
use Rattle.replay.proofs.Turns.{onward, stepped_onward}
use Rattle.replay.proofs.replay.Goals as goal

pub loop-preserved : goal.loop-preserved
loop-preserved c = let stepped = stepped_onward c.loop.buf c.step.new.buf c.loop.list c.step.new.list c.loop.s
    c.step.result c.loop.invariant c.step.ensures in
    let placed = subst (onward (length c.step.new.buf) (length c.loop.list))
    (c.in-Some-On.is ∙ ap Some c.in-Some-On.field-0-is) stepped in
    record { unread = placed.unread; list = omega (arith, placed.list, c.step.auto.list) }
