use Rattle.parse.proofs.Bodies as bodies
use Rattle.reading.specs.Declaration.{variants}
use Rattle.token_list.specs.Stream.{at}
use Prim.Native.Nat.{◌+◌}
use Rattle.parse.proofs.Meeting as meeting
use Rattle.reading.specs.Reading as reading
use Rattle.token_list.proofs.Texts.{chosen, passed_over}
use mathlib.Core.Path.{refl, sym, ◌∙◌, ap}
use Rattle.parse.proofs.body.take_enum.Goals as goal

pub returns-then-not-is_punct : goal.returns-then-not-is_punct
returns-then-not-is_punct c =
    meeting.meets_refused reading.enum_body _ _ c.requires _ _ _ _ _ c.in-Leaf.ensures.here
    (passed_over _ _ _ (meeting.punct_of _ _ _ _ c.in-Leaf.ensures.token ∙ sym c.if-not-is_punct.ensures))

pub returns-in-Nothing : goal.returns-in-Nothing
returns-in-Nothing c = meeting.meets_refused reading.enum_body _ _ c.requires _ _ _ _ _ c.in-Nothing.ensures refl

pub returns-else-not-is_punct : goal.returns-else-not-is_punct
returns-else-not-is_punct c =
    meeting.meets_leaf reading.enum_body _ _ c.requires _ _ c.in-Leaf.ensures _ _ _ _
    c.take_token-next.ensures.value c.take_token-next.ensures.roles_after _
    (chosen _ _ _ (meeting.punct_of _ _ _ _ c.in-Leaf.ensures.token ∙ sym c.if-not-is_punct.ensures)) refl

pub returns-in-Group : goal.returns-in-Group
returns-in-Group c = meeting.meets_as
    (ap (reading.enum_body c.args.c.row) (meeting.group_stream _ _ _ c.requires c.in-Group.ensures))
    (bodies.closing_map _ _
    (reading.every reading.variant (c.args.c.row + 1) (at c.args.s.now c.in-Group.t.next).here) variants
    (λ vs rs rest e h. bodies.count_variants c.variants_group.result vs h) c.variants_group.ensures)
