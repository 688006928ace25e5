use Rattle.parse.proofs.Bodies as bodies
use Rattle.reading.specs.Declaration.{fields, named, tuple}
use Rattle.token_list.specs.Stream.{at}
use Prim.Native.Nat.{◌+◌}
use Rattle.parse.proofs.Meeting as meeting
use Rattle.reading.specs.Reading as reading
use Rattle.token_list.proofs.Texts.{chosen, passed_over}
use borrow.Author.Tests.{eq-eqb, ne_eqb}
use mathlib.Core.Path.{refl, sym, ◌∙◌, ap}
use Rattle.parse.proofs.body.take_struct.Goals as goal

pub returns-then-not-is_punct : goal.returns-then-not-is_punct
returns-then-not-is_punct c =
    meeting.meets_refused reading.struct_body_lem _ _ c.requires _ _ _ _ _ c.in-Leaf.ensures.here
    (passed_over _ _ _ (meeting.punct_of _ _ _ _ c.in-Leaf.ensures.token ∙ sym c.if-not-is_punct.ensures))

pub returns-then-t-eq123 : goal.returns-then-t-eq123
returns-then-t-eq123 c = meeting.meets_as
    (ap (reading.struct_body_lem c.args.c.row) (meeting.group_stream _ _ _ c.requires c.in-Group.ensures) ∙
    chosen _ _ _ (eq-eqb _ _ c.if-t-eq123.true))
    (bodies.closing_map _ _
    (reading.named_fields (c.args.c.row + 1) (at c.args.s.now c.in-Group.t.next).here) fields
    (λ f rs rest e h. h)
    (bodies.closing_map _ _
    (reading.every reading.named_field (c.args.c.row + 1) (at c.args.s.now c.in-Group.t.next).here)
    named (λ fs rs rest e h. bodies.count-named c.named_group.result fs h) c.named_group.ensures))

pub returns-then-t-eq40 : goal.returns-then-t-eq40
returns-then-t-eq40 c = meeting.meets_as
    (ap (reading.struct_body_lem c.args.c.row) (meeting.group_stream _ _ _ c.requires c.in-Group.ensures) ∙
    passed_over _ _ _ (ne_eqb _ _ c.if-t-eq123.false) ∙ chosen _ _ _ (eq-eqb _ _ c.if-t-eq40.true))
    (bodies.closing_map _ _
    (reading.tuple_fields (c.args.c.row + 1) (at c.args.s.now c.in-Group.t.next).here) fields
    (λ f rs rest e h. h)
    (bodies.closing_map _ _
    (reading.every reading.tuple_field (c.args.c.row + 1) (at c.args.s.now c.in-Group.t.next).here)
    tuple (λ fs rs rest e h. bodies.count_tuple c.tuple_group.result fs h) c.tuple_group.ensures))

pub returns-in-Nothing : goal.returns-in-Nothing
returns-in-Nothing c = meeting.meets_refused reading.struct_body_lem _ _ c.requires _ _ _ _ _ c.in-Nothing.ensures refl

pub returns-else-not-is_punct : goal.returns-else-not-is_punct
returns-else-not-is_punct c =
    meeting.meets_leaf reading.struct_body_lem _ _ c.requires _ _ c.in-Leaf.ensures _ _ _ _
    c.take_token-next.ensures.value c.take_token-next.ensures.roles_after _
    (chosen _ _ _ (meeting.punct_of _ _ _ _ c.in-Leaf.ensures.token ∙ sym c.if-not-is_punct.ensures)) refl

pub returns-else-t-eq40 : goal.returns-else-t-eq40
returns-else-t-eq40 c = meeting.meets_refused reading.struct_body_lem _ _ c.requires _ _ _ _ _
    (meeting.group_stream _ _ _ c.requires c.in-Group.ensures)
    (passed_over _ _ _ (ne_eqb _ _ c.if-t-eq123.false) ∙ passed_over _ _ _ (ne_eqb _ _ c.if-t-eq40.false))
