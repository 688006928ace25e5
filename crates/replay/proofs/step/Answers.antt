use mathlib.Core.Path.{sym, ap, ◌∙◌}
use Rattle.std.specs.Prelude.{Some}
use Rattle.replay.specs.declared.Next.TheVariants.{Take, Compare}
use Rattle.replay.proofs.Turns.{placed_ready, asked_ahead}
use Rattle.replay.proofs.step.Goals as goal

pub ready-at-requires-in-Take : goal.ready-at-requires-in-Take
ready-at-requires-in-Take c =
    (asked_ahead c.args.buf.now c.ready-at.new.buf c.args.s c.ready-at.result c.requires c.ready-at.ensures
    (Some (Take c.in-Take.next c.in-Take.size))
    (sym c.seek.ensures ∙ c.in_ok-turn.was ∙ ap Some c.in-Take.is)).unread

pub take_list-requires : goal.take_list-requires
take_list-requires c =
    let next = asked_ahead c.args.buf.now c.ready-at.new.buf c.args.s c.ready-at.result c.requires c.ready-at.ensures
    (Some (Take c.in-Take.next c.in-Take.size)) (sym c.seek.ensures ∙ c.in_ok-turn.was ∙ ap Some c.in-Take.is) in
    placed_ready c.ready-at.new.buf c.ready-at-in-Take.new.buf c.in-Take.size c.in-Take.next
    c.ready-at-in-Take.result next c.ready-at-in-Take.ensures

pub ready-at-requires-in-Compare : goal.ready-at-requires-in-Compare
ready-at-requires-in-Compare c =
    (asked_ahead c.args.buf.now c.ready-at.new.buf c.args.s c.ready-at.result c.requires c.ready-at.ensures
    (Some (Compare c.in-Compare.next c.in-Compare.topic c.in-Compare.size))
    (sym c.seek.ensures ∙ c.in_ok-turn.was ∙ ap Some c.in-Compare.is)).unread

pub compare-requires : goal.compare-requires
compare-requires c =
    let next = asked_ahead c.args.buf.now c.ready-at.new.buf c.args.s c.ready-at.result c.requires c.ready-at.ensures
    (Some (Compare c.in-Compare.next c.in-Compare.topic c.in-Compare.size))
    (sym c.seek.ensures ∙ c.in_ok-turn.was ∙ ap Some c.in-Compare.is) in
    placed_ready c.ready-at.new.buf c.ready-at-in-Compare.new.buf c.in-Compare.size c.in-Compare.next
    c.ready-at-in-Compare.result next c.ready-at-in-Compare.ensures
