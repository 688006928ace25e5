use Rattle.token_list.specs.declared.check.Cursor.{Cursor}
use Rattle.parse.proofs.Meeting as meeting
use Rattle.parse.specs.Contract as contract
use Rattle.reading.specs.Reading as reading
use Rattle.token_list.proofs.Texts.{chosen, passed_over, and_last, and_fails}
use borrow.Author.Tests.{eq-eqb, ne_eqb}
use mathlib.Core.Path.{refl, sym, ◌∙◌, ap}
use Rattle.parse.proofs.visibility.scope_after.Goals.{else-t-eq40-via-then-t-eq40+else-is_scoped}
use Rattle.parse.proofs.visibility.scope_after.Goals.{else-t-eq40-via-else-t-eq40}
use Rattle.parse.proofs.visibility.scope_after.Goals as goal

pub is_scoped-requires : goal.is_scoped-requires
is_scoped-requires c = meeting.past_in_of _ _ _ _ c.past.ensures c.requires c.in-Group.ensures.token

pub returns-in-Nothing : goal.returns-in-Nothing
returns-in-Nothing c =
    meeting.meets_no_group reading.scope_after _ c.requires c.peek.ensures c.in-Nothing.is refl (λ r us. refl) tt

pub returns-then-is_scoped : goal.returns-then-is_scoped
returns-then-is_scoped c =
    let scoped = sym (ap (λ (d : Cursor). reading.scoped (contract.stream c.args.s.now d)) c.past.ensures) ∙
    sym c.if-is_scoped.ensures in
    meeting.meets_group reading.scope_after _ _ c.requires _ _ c.in-Group.ensures _ _ _ _ c.take_group.ensures _
    (chosen _ _ _ (and_last _ _ (eq-eqb _ _ c.if-t-eq40.true) ∙ scoped)) tt

pub returns-else-t-eq40 : goal.returns-else-t-eq40
returns-else-t-eq40 c =
    meeting.meets_same reading.scope_after _ _ c.requires _ _ _ _
    (meeting.group_stream _ _ _ c.requires c.in-Group.ensures) (elim c.else-t-eq40.branch [
      | else-t-eq40-via-then-t-eq40+else-is_scoped w ↦ passed_over _ _ _
          (and_last _ _ (eq-eqb _ _ w.if-t-eq40.true) ∙
          sym (ap (λ (d : Cursor). reading.scoped (contract.stream c.args.s.now d)) w.past.ensures) ∙
          sym w.if-is_scoped.ensures)
      | else-t-eq40-via-else-t-eq40 w ↦ passed_over _ _ _ (and_fails _ _ (ne_eqb _ _ w.if-t-eq40.false))
    ]) tt
