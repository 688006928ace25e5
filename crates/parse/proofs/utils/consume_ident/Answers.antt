use Rattle.reading.specs.Place.{ident_row}
use Rattle.parse.proofs.Places as places
use Rattle.token_list.specs.declared.check.Cursor.{Cursor}
use Rattle.token_list.specs.Stream.{at, head}
use Rattle.std.specs.Prelude.{Some}
use Rattle.parse.proofs.Meeting as meeting
use Rattle.parse.specs.Contract as contract
use Rattle.reading.specs.Reading as reading
use Rattle.token_list.proofs.Texts.{chosen, passed_over}
use borrow.Author.Tests.{eq-eqb, ne_eqb}
use mathlib.Core.Path.{refl, sym, ◌∙◌, ap, subst, subst⁻¹}
use Rattle.parse.proofs.utils.consume_ident.Goals as goal

pub returns-then-t-ne105 : goal.returns-then-t-ne105
returns-then-t-ne105 c =
    meeting.meets_same (reading.word c.args.role) _ _ c.requires _ _ _ _ c.in-Leaf.ensures.here
    (passed_over _ _ _ (ne_eqb _ _ c.if-t-ne105.true)) refl

pub lone_ident-requires-clause-in_list : goal.lone_ident-requires-clause-in_list
lone_ident-requires-clause-in_list c = meeting.past_in_of _ _ _ _ c.past.ensures c.requires c.in-Group.ensures.token

pub returns-in_err-w-in-Group : goal.returns-in_err-w-in-Group
returns-in_err-w-in-Group c =
    let inside = ap (λ (d : Cursor). reading.lone reading.is_ident (contract.stream c.args.s.now d)) c.past.ensures in
    meeting.say_word (sym c.from_residual.ensures)
    (meeting.meets_same (reading.word c.args.role) _ _ c.requires _ _ _ _
    (meeting.group_stream _ _ _ c.requires c.in-Group.ensures) (passed_over _ _ _ (sym inside
    ∙ c.in_err-w-in-Group.ensures)) refl)

pub returns-in-Nothing : goal.returns-in-Nothing
returns-in-Nothing c =
    meeting.meets_same (reading.word c.args.role) _ _ c.requires _ _ _ _ c.in-Nothing.ensures refl refl

pub returns-else-t-ne105 : goal.returns-else-t-ne105
returns-else-t-ne105 c = let l = c.in-Leaf.ensures in
    meeting.meets_leaf (reading.word c.args.role) _ _ c.requires _ _ l _ _ _ _ c.take_token-next.ensures.value
    c.take_token-next.ensures.roles_after _ (chosen _ _ _ (eq-eqb _ _ c.if-t-ne105.false)) (
      _,
      refl,
      record {
        text = record { bytes = refl; within = meeting.token_within _ _ _ l.token };
        token = places.ident_leaf _ _ _ c.requires l;
        row = sym (ap (ident_row c.args.c.row) l.here);
      },
    )

pub returns-in_ok-w-in-Group : goal.returns-in_ok-w-in-Group
returns-in_ok-w-in-Group c =
    let g = c.in-Group.ensures in
    let found = c.in_ok-w-in-Group.w in
    let w = subst (λ (d : Cursor). contract.lone_shown c.args.s.now d (Some found)) c.past.ensures
    c.in_ok-w-in-Group.ensures in
    let m = subst⁻¹ (λ b. contract.Moved c.args.s.now c.args.c found.next
    (reading.copied c.args.role (at c.args.s.now c.in-Group.t.next).here)
    (head (at c.args.s.now c.in-Group.t.next).outer) c.args.roles.now b) c.fill.ensures
    (meeting.group_moved c.args.s.now c.args.c c.in-Group.t c.requires c.args.roles.now c.args.role found.next
    g w.4) in
    meeting.meets_group (reading.word c.args.role) c.args.s.now c.args.c c.requires _ c.in-Group.t g found.next
    c.args.roles.now _ _ m _ (chosen _ _ _ w.0) (
      _,
      ap (reading.found (reading.first_text (at c.args.s.now c.in-Group.t.next).here)) (sym w.3),
      record {
        text = w.1;
        token = places.ident_group _ _ _ _ g w.5;
        row = w.3 ∙ sym (ap (ident_row c.args.c.row) g.here);
      },
    )
