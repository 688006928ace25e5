use Prim.Native.Nat.{◌+◌}
use Rattle.reading.specs.Place.{literal_row}
use Rattle.token_list.specs.declared.check.Cursor.{Cursor}
use Rattle.parse.proofs.Places as places
use Rattle.parse.proofs.Meeting as meeting
use Rattle.reading.specs.Reading as reading
use Rattle.token_list.proofs.Texts.{chosen, passed_over}
use mathlib.Core.Path.{refl, sym, ◌∙◌, ap}
use Rattle.parse.proofs.variants.optional_value.Goals as goal

pub take_token-next-requires : goal.take_token-next-requires
take_token-next-requires c =
    record { in_list = c.requires; token_at = (meeting.peeked _ _ c.peek.ensures c.in-Leaf.is).token }

pub discriminant-requires : goal.discriminant-requires
discriminant-requires c = meeting.past_in_of _ _ _ _ c.take_token-next.ensures.value c.requires
    (meeting.peeked _ _ c.peek.ensures c.in-Leaf.is).token

pub returns-then-is_punct : goal.returns-then-is_punct
returns-then-is_punct c =
    meeting.meets_from reading.value_if _ _ c.requires _ _ (meeting.peeked _ _ c.peek.ensures c.in-Leaf.is) _ _ _ _
    c.take_token-next.ensures.value c.take_token-next.ensures.roles_after _ _ reading.discriminant
    (chosen _ _ _
    (meeting.punct_of _ _ _ _ (meeting.peeked _ _ c.peek.ensures c.in-Leaf.is).token ∙ sym
    c.is_punct.ensures ∙ c.if-is_punct.true))
    (meeting.meets_show
    (λ v h. places.value_as _ c.discriminant.result _ (literal_row (c.args.c.row + 1)) v
    (ap (λ (x : Cursor). literal_row x.row v) (sym c.take_token-next.ensures.value)) h)
    c.discriminant.ensures)

pub returns-then-is_punct-2 : goal.returns-then-is_punct-2
returns-then-is_punct-2 c =
    meeting.meets_same reading.value_if _ _ c.requires _ _ _ _ (meeting.peeked _ _ c.peek.ensures c.in-Leaf.is).here
    (passed_over _ _ _
    (meeting.punct_of _ _ _ _ (meeting.peeked _ _ c.peek.ensures c.in-Leaf.is).token ∙
    sym c.is_punct.ensures ∙ c.if-is_punct.false) ∙ chosen
    _ _ _
    (meeting.punct_of _ _ _ _ (meeting.peeked _ _ c.peek.ensures c.in-Leaf.is).token ∙ sym
    c.is_punct-in-Leaf.ensures ∙ c.if-is_punct-2.true))
    (refl, tt)

pub returns-in-Nothing : goal.returns-in-Nothing
returns-in-Nothing c = meeting.meets_same reading.value_if _ _ c.requires _ _ _ _
    (meeting.peeked _ _ c.peek.ensures c.in-Nothing.is) refl (refl, tt)

pub returns-in-Group : goal.returns-in-Group
returns-in-Group c = meeting.meets_refused reading.value_if _ _ c.requires _ _ _ _ _
    (meeting.peeked _ _ c.peek.ensures c.in-Group.is).here refl

pub returns-else-is_punct-2 : goal.returns-else-is_punct-2
returns-else-is_punct-2 c =
    meeting.meets_refused reading.value_if _ _ c.requires _ _ _ _ _
    (meeting.peeked _ _ c.peek.ensures c.in-Leaf.is).here
    (passed_over _ _ _
    (meeting.punct_of _ _ _ _ (meeting.peeked _ _ c.peek.ensures c.in-Leaf.is).token ∙
    sym c.is_punct.ensures ∙ c.if-is_punct.false) ∙ passed_over
    _ _ _
    (meeting.punct_of _ _ _ _ (meeting.peeked _ _ c.peek.ensures c.in-Leaf.is).token ∙ sym
    c.is_punct-in-Leaf.ensures ∙ c.if-is_punct-2.false))
