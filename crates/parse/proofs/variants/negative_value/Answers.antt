use mathlib.Core.Path.{ap}
use mathlib.Core.Bool.{not}
use Rattle.parse.proofs.Places as places
use Rattle.parse.proofs.Meeting as meeting
use Rattle.reading.specs.Reading as reading
use Rattle.token_list.proofs.Texts.{chosen, passed_over}
use borrow.Author.Tests.{eq-eqb, ne_eqb, not-true, not-false}
use mathlib.Core.Path.{refl, sym, ◌∙◌}
use Rattle.parse.proofs.variants.negative_value.Goals as goal

pub returns-then-t-ne108 : goal.returns-then-t-ne108
returns-then-t-ne108 c = meeting.meets_refused reading.negative_value _ _ c.requires _ _ _ _ _
    (meeting.peeked _ _ c.peek.ensures c.in-Leaf.is).here
    (passed_over _ _ _ (ne_eqb _ _ c.if-t-ne108.true))

pub is_negatable-requires : goal.is_negatable-requires
is_negatable-requires c = meeting.token_within _ _ _ (meeting.peeked _ _ c.peek.ensures c.in-Leaf.is).token

pub returns-then-not-is_negatable : goal.returns-then-not-is_negatable
returns-then-not-is_negatable c = meeting.meets_refused reading.negative_value _ _ c.requires _ _ _ _ _
    (meeting.peeked _ _ c.peek.ensures c.in-Leaf.is).here
    (chosen _ _ _ (eq-eqb _ _ c.if-t-ne108.false) ∙ passed_over _ _ _
    (sym c.is_negatable.ensures ∙ not-true _ (ap not c.if-not-is_negatable.true)))

pub take_token-next-requires : goal.take_token-next-requires
take_token-next-requires c =
    record { in_list = c.requires; token_at = (meeting.peeked _ _ c.peek.ensures c.in-Leaf.is).token }

pub returns-in-Nothing : goal.returns-in-Nothing
returns-in-Nothing c = meeting.meets_refused reading.negative_value _ _ c.requires _ _ _ _ _
    (meeting.peeked _ _ c.peek.ensures c.in-Nothing.is) refl

pub returns-in-Group : goal.returns-in-Group
returns-in-Group c = meeting.meets_refused reading.negative_value _ _ c.requires _ _ _ _ _
    (meeting.peeked _ _ c.peek.ensures c.in-Group.is).here refl

pub returns-else-not-is_negatable : goal.returns-else-not-is_negatable
returns-else-not-is_negatable c =
    meeting.meets_leaf reading.negative_value _ _ c.requires _ _ (meeting.peeked _ _ c.peek.ensures c.in-Leaf.is) _ _ _
    _
    c.take_token-next.ensures.value c.take_token-next.ensures.roles_after _
    (chosen _ _ _ (eq-eqb _ _ c.if-t-ne108.false)
    ∙ chosen _ _ _ (sym c.is_negatable.ensures ∙ not-false _ (ap not c.if-not-is_negatable.false))) (
      (
        _,
        record {
          bytes = refl;
          within = meeting.token_within _ _ _ (meeting.peeked _ _ c.peek.ensures c.in-Leaf.is).token;
        },
        sym c.is_negatable.ensures ∙ not-false _ (ap not c.if-not-is_negatable.false),
        refl,
      ),
      places.token_in _ _ _ c.requires (meeting.peeked _ _ c.peek.ensures c.in-Leaf.is).token,
    )
