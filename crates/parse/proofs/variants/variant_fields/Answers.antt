use Rattle.token_list.specs.declared.check.Cursor.{Cursor}
use Rattle.parse.proofs.Bodies as bodies
use Rattle.reading.specs.Declaration.{named, tuple}
use Rattle.token_list.specs.Stream.{at}
use Prim.Native.Nat.{◌+◌}
use Rattle.parse.proofs.Meeting as meeting
use Rattle.parse.specs.Contract as contract
use Rattle.reading.specs.Reading as reading
use Rattle.token_list.proofs.Texts.{chosen, passed_over}
use borrow.Author.Tests.{eq-eqb, ne_eqb}
use mathlib.Core.Path.{refl, ◌∙◌, ap}
use mathlib.Core.Logic.{inl, inr}
use Rattle.parse.proofs.variants.variant_fields.Goals as goal

pub past-inside-requires : goal.past-inside-requires
past-inside-requires c =
    record { in_list = c.requires; token_at = (meeting.peeked _ _ c.peek.ensures c.in-Group.is).token }

pub named_group-requires : goal.named_group-requires
named_group-requires c = record { in_list = c.requires; group_at = (meeting.peeked _ _ c.peek.ensures c.in-Group.is) }

pub returns-in_err-end-in-Group : goal.returns-in_err-end-in-Group
returns-in_err-end-in-Group c =
    meeting.meets_given_up contract.fields_said (contract.fields_shown c.args.s.now c.args.c) c.from_residual.ensures.1
    (meeting.meets_as
    (ap (reading.variant_fields c.args.c.row)
    (meeting.group_stream _ _ _ c.requires (meeting.peeked _ _ c.peek.ensures c.in-Group.is))
    ∙ chosen _ _ _ (eq-eqb _ _ c.if-t-eq123.true))
    (bodies.closing_map _ _
    (reading.every reading.named_field (c.args.c.row + 1) (at c.args.s.now c.in-Group.t.next).here) named
    (λ fs rs rest e h. absurd h)
    c.in_err-end-in-Group.ensures))

pub returns-then-t-eq123 : goal.returns-then-t-eq123
returns-then-t-eq123 c = meeting.meets_as
    (ap (reading.variant_fields c.args.c.row)
    (meeting.group_stream _ _ _ c.requires (meeting.peeked _ _ c.peek.ensures c.in-Group.is))
    ∙ chosen _ _ _ (eq-eqb _ _ c.if-t-eq123.true))
    (bodies.closing_map _ _
    (reading.every reading.named_field (c.args.c.row + 1) (at c.args.s.now c.in-Group.t.next).here) named
    (λ fs rs rest e h. (
      (
        fs,
        refl,
        bodies.inside_at (reading.every reading.named_field) _ _ _ _ c.requires
            (meeting.peeked _ _ c.peek.ensures c.in-Group.is).token c.past-inside.ensures e,
      ),
      ap (λ (x : Cursor). x.row) c.past-inside.ensures,
    ))
    c.in_ok-end-in-Group.ensures)

pub returns-in_err-end-in-Group-2 : goal.returns-in_err-end-in-Group-2
returns-in_err-end-in-Group-2 c =
    meeting.meets_given_up contract.fields_said (contract.fields_shown c.args.s.now c.args.c)
    c.from_residual-in_err-end-in-Group-2.ensures.1
    (meeting.meets_as
    (ap (reading.variant_fields c.args.c.row)
    (meeting.group_stream _ _ _ c.requires (meeting.peeked _ _ c.peek.ensures c.in-Group.is)) ∙ passed_over _ _ _
    (ne_eqb _ _ c.if-t-eq123.false) ∙ chosen _ _ _ (eq-eqb _ _ c.if-t-eq40.true))
    (bodies.closing_map _ _
    (reading.every reading.tuple_field (c.args.c.row + 1) (at c.args.s.now c.in-Group.t.next).here) tuple
    (λ fs rs rest e h. absurd h)
    c.in_err-end-in-Group-2.ensures))

pub returns-then-t-eq40 : goal.returns-then-t-eq40
returns-then-t-eq40 c = meeting.meets_as
    (ap (reading.variant_fields c.args.c.row)
    (meeting.group_stream _ _ _ c.requires (meeting.peeked _ _ c.peek.ensures c.in-Group.is)) ∙ passed_over _ _ _
    (ne_eqb _ _ c.if-t-eq123.false) ∙ chosen _ _ _ (eq-eqb _ _ c.if-t-eq40.true))
    (bodies.closing_map _ _
    (reading.every reading.tuple_field (c.args.c.row + 1) (at c.args.s.now c.in-Group.t.next).here) tuple
    (λ fs rs rest e h. (
      (
        fs,
        refl,
        bodies.inside_at (reading.every reading.tuple_field) _ _ _ _ c.requires
            (meeting.peeked _ _ c.peek.ensures c.in-Group.is).token c.past-inside.ensures e,
      ),
      ap (λ (x : Cursor). x.row) c.past-inside.ensures,
    ))
    c.in_ok-end-in-Group-2.ensures)

pub returns-in-Nothing : goal.returns-in-Nothing
returns-in-Nothing c =
    elim c.in-Nothing.is [
      | inl e ↦ meeting.meets_same reading.variant_fields _ _ c.requires _ _ _ _
          (meeting.peeked _ _ c.peek.ensures e) refl (refl, tt)
      | inr w ↦ meeting.meets_same reading.variant_fields _ _ c.requires _ _ _ _
          (meeting.peeked _ _ c.peek.ensures w.1).here refl (refl, tt)
    ]

pub returns-else-t-eq40 : goal.returns-else-t-eq40
returns-else-t-eq40 c = meeting.meets_refused reading.variant_fields _ _ c.requires _ _ _ _ _
    (meeting.group_stream _ _ _ c.requires (meeting.peeked _ _ c.peek.ensures c.in-Group.is))
    (passed_over _ _ _ (ne_eqb _ _ c.if-t-eq123.false) ∙ passed_over _ _ _ (ne_eqb _ _ c.if-t-eq40.false))
