use mathlib.Core.Path.{sym, ap, ◌∙◌}
use mathlib.Core.Bool.{true, false}
use native.Mathlib.Omega.{arith}
use borrow.Author.Tests.{ne_eqb}
use Rattle.token_list.specs.Layout.{marked, text_offset}
use Rattle.token_list.proofs.Texts.{and_fails}
use Rattle.token_list.proofs.Columns.{offset_low}
use Rattle.token_list.proofs.Starts.{list_long}
use Rattle.token_list.proofs.Rows.{first-row, text-within}
use Rattle.token_list.proofs.Streams.{punct-none, punct_look, punct_by, no_marks}
use Rattle.token_list.proofs.stream.has_punct.Goals as goal
use Rattle.token_list.proofs.stream.has_punct.Goals.{then-s-c-via-then-s-c, then-s-c-via-else-s-c+then-s-c-ne112}

pub returns-then-s-c : goal.returns-then-s-c
returns-then-s-c c =
    elim c.then-s-c.branch [
      | then-s-c-via-then-s-c w ↦ sym (punct-none c.args.s.now c.args.c c.requires.in_list c.args.b w.if-s-c.true)
      | then-s-c-via-else-s-c+then-s-c-ne112 w ↦
          sym (punct_look c.args.s.now c.args.c c.requires.in_list c.args.b w.if-s-c.false
          ∙ and_fails _ _ (ne_eqb _ _ w.if-s-c-ne112.true))
    ]

pub bounds-s-c-2 : goal.bounds-s-c-2
bounds-s-c-2 c = let f = first-row c.args.s.now c.args.c.at c.requires.in_list.right_rows c.if-s-c.false in
    omega (arith, text-within _ _ f, offset_low (marked c.args.s.now))

pub returns-then-s-c-2 : goal.returns-then-s-c-2
returns-then-s-c-2 c =
    let m = no_marks c.args.s.now c.args.c c.requires.in_list c.args.b c.if-s-c.false c.requires.b_value
    c.if-s-c-2.true in
    sym (punct_by c.args.s.now c.args.c c.requires.in_list c.args.b c.if-s-c.false c.if-s-c-ne112.false false m)

pub has_marks-requires : goal.has_marks-requires
has_marks-requires c = list_long c.requires.in_list

pub returns-else-has_marks : goal.returns-else-has_marks
returns-else-has_marks c = let m = sym c.has_marks.ensures ∙ c.if-has_marks.false in
    c.if-has_marks.false
    ∙ sym (punct_by c.args.s.now c.args.c c.requires.in_list c.args.b c.if-s-c.false c.if-s-c-ne112.false false m ∙
    ne_eqb _ _ c.if-s-c-2.false)

pub bounds-s-c-then-has_marks : goal.bounds-s-c-then-has_marks
bounds-s-c-then-has_marks c =
    let f = first-row c.args.s.now c.args.c.at c.requires.in_list.right_rows c.if-s-c.false in
    let m = sym c.has_marks.ensures ∙ c.if-has_marks.true in
    omega (arith, text-within _ _ f, ap text_offset m)

pub returns-then-has_marks : goal.returns-then-has_marks
returns-then-has_marks c = let m = sym c.has_marks.ensures ∙ c.if-has_marks.true in
    sym (punct_by c.args.s.now c.args.c c.requires.in_list c.args.b c.if-s-c.false c.if-s-c-ne112.false true m)
