use Rattle.token_list.specs.declared.check.Cursor.{Cursor}
use Rattle.parse.proofs.Places as places
use Rattle.parse.proofs.Meeting as meeting
use Rattle.reading.specs.Reading as reading
use Rattle.token_list.proofs.Texts.{chosen, passed_over}
use borrow.Author.Tests.{eq-eqb, ne_eqb}
use mathlib.Core.Path.{refl, sym, ◌∙◌, ap}
use Rattle.parse.proofs.variants.discriminant.Goals as goal

pub take_token-next-requires : goal.take_token-next-requires
take_token-next-requires c =
    record { in_list = c.requires; token_at = (meeting.peeked _ _ c.peek.ensures c.in-Leaf.is).token }

pub returns-then-t-eq108 : goal.returns-then-t-eq108
returns-then-t-eq108 c =
    meeting.meets_leaf reading.discriminant _ _ c.requires _ _ (meeting.peeked _ _ c.peek.ensures c.in-Leaf.is) _ _ _ _
    c.take_token-next.ensures.value c.take_token-next.ensures.roles_after _
    (chosen _ _ _ (eq-eqb _ _ c.if-t-eq108.true)) (
      (
        _,
        record {
          bytes = refl;
          within = meeting.token_within _ _ _ (meeting.peeked _ _ c.peek.ensures c.in-Leaf.is).token;
        },
        refl,
      ),
      (places.token_in _ _ _ c.requires (meeting.peeked _ _ c.peek.ensures c.in-Leaf.is).token, refl),
    )

pub take_token-next-requires-then-is_punct : goal.take_token-next-requires-then-is_punct
take_token-next-requires-then-is_punct c =
    record { in_list = c.requires; token_at = (meeting.peeked _ _ c.peek.ensures c.in-Leaf.is).token }

pub negative_value-requires : goal.negative_value-requires
negative_value-requires c = meeting.past_in_of _ _ _ _ c.take_token-next-then-is_punct.ensures.value c.requires
    (meeting.peeked _ _ c.peek.ensures c.in-Leaf.is).token

pub returns-then-is_punct : goal.returns-then-is_punct
returns-then-is_punct c =
    meeting.meets_from reading.discriminant _ _ c.requires _ _ (meeting.peeked _ _ c.peek.ensures c.in-Leaf.is) _ _ _ _
    c.take_token-next-then-is_punct.ensures.value c.take_token-next-then-is_punct.ensures.roles_after _ _
    reading.negative_value
    (passed_over _ _ _ (ne_eqb _ _ c.if-t-eq108.false) ∙ chosen _ _ _
    (meeting.punct_of _ _ _ _ (meeting.peeked _ _ c.peek.ensures c.in-Leaf.is).token ∙ sym
    c.is_punct.ensures ∙ c.if-is_punct.true))
    (places.value_past_minus c.negative_value.result c.args.c.row
    (ap (λ (x : Cursor). x.row) c.take_token-next-then-is_punct.ensures.value)
    c.negative_value.ensures)

pub returns-in-Nothing : goal.returns-in-Nothing
returns-in-Nothing c = meeting.meets_refused reading.discriminant _ _ c.requires _ _ _ _ _
    (meeting.peeked _ _ c.peek.ensures c.in-Nothing.is) refl

pub returns-in-Group : goal.returns-in-Group
returns-in-Group c = meeting.meets_refused reading.discriminant _ _ c.requires _ _ _ _ _
    (meeting.peeked _ _ c.peek.ensures c.in-Group.is).here refl

pub returns-else-is_punct : goal.returns-else-is_punct
returns-else-is_punct c = meeting.meets_refused reading.discriminant _ _ c.requires _ _ _ _ _
    (meeting.peeked _ _ c.peek.ensures c.in-Leaf.is).here
    (passed_over _ _ _ (ne_eqb _ _ c.if-t-eq108.false) ∙ passed_over _ _ _
    (meeting.punct_of _ _ _ _ (meeting.peeked _ _ c.peek.ensures c.in-Leaf.is).token ∙ sym
    c.is_punct.ensures ∙ c.if-is_punct.false))
