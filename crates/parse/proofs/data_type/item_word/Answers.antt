use mathlib.Core.List.{[]}
use Rattle.parse.proofs.Heads as heads
use Rattle.token_list.specs.Text.{same}
use Rattle.parse.proofs.Meeting as meeting
use Rattle.parse.specs.Contract as contract
use Rattle.reading.specs.Reading as reading
use mathlib.Core.Path.{refl, sym, ◌∙◌, ap}
use Rattle.parse.proofs.data_type.item_word.Goals as goal

pub returns-in_default : goal.returns-in_default
returns-in_default c =
    meeting.meets_missing reading.named_kind c.in_default.ensures (meeting.meets_wrong _ _ c.wrong_token.ensures)

pub returns-then-text_is : goal.returns-then-text_is
returns-then-text_is c =
    meeting.meets_word reading.named_kind _ c.in-Some.ensures
    (λ text h.
    meeting.meets_as
    (heads.kind_struct text c.in-Some.w.row c.in-Some.w.next.row (contract.stream c.args.s.now c.in-Some.w.next)
    (ap (λ x. same x reading.STRUCT) h.text.bytes ∙ sym c.if-text_is.ensures))
    (meeting.meets_stay _ _ _ _ _ (meeting.landed c.in-Some.ensures) refl))

pub returns-then-text_is-2 : goal.returns-then-text_is-2
returns-then-text_is-2 c =
    meeting.meets_word reading.named_kind _ c.in-Some.ensures
    (λ text h.
    meeting.meets_as
    (heads.kind_enum text c.in-Some.w.row c.in-Some.w.next.row (contract.stream c.args.s.now c.in-Some.w.next)
    (ap (λ x. same x reading.STRUCT) h.text.bytes ∙ sym c.if-text_is.ensures)
    (ap (λ x. same x reading.ENUM) h.text.bytes ∙ sym c.if-text_is-2.ensures))
    (meeting.meets_stay _ _ _ _ _ (meeting.landed c.in-Some.ensures) refl))

pub returns : goal.returns
returns c =
    meeting.meets_word reading.named_kind _ c.in-Some.ensures
    (λ text h.
    meeting.meets_as
    (heads.kind_other text c.in-Some.w.row c.in-Some.w.next.row (contract.stream c.args.s.now c.in-Some.w.next)
    (ap (λ x. same x reading.STRUCT) h.text.bytes ∙ sym c.if-text_is.ensures)
    (ap (λ x. same x reading.ENUM) h.text.bytes ∙ sym c.if-text_is-2.ensures))
    (contract.refuses [] refl))
