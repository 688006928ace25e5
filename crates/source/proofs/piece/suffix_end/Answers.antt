use mathlib.Core.Bool.{not}
use mathlib.Core.Path.{sym, ap, ◌∙◌}
use borrow.Author.Tests.{eq-eqb, ne_eqb, not-true, not-false}
use Rattle.token_list.specs.Byte.{UNDERSCORE}
use Rattle.token_list.specs.Text.{name_start}
use Rattle.token_list.proofs.Texts.{and_fails, and_last}
use Rattle.source.proofs.Pieces.{suffix-none, suffix-lone, suffix_some}
use Rattle.source.proofs.piece.suffix_end.Goals as goal
use Rattle.source.proofs.piece.suffix_end.Goals.{else-b-eq95-via-then-b-eq95+else-end-i-eq1}
use Rattle.source.proofs.piece.suffix_end.Goals.{else-b-eq95-via-else-b-eq95}

pub returns-then-not-is_name_start : goal.returns-then-not-is_name_start
returns-then-not-is_name_start c = suffix-none c.args.s.now c.args.i
    (ap name_start (sym c.byte_at-b.ensures) ∙ sym c.is_name_start.ensures
    ∙ not-true _ (ap not c.if-not-is_name_start.true))

pub returns-then-end-i-eq1 : goal.returns-then-end-i-eq1
returns-then-end-i-eq1 c =
    let some = ap name_start (sym c.byte_at-b.ensures) ∙ sym c.is_name_start.ensures
    ∙ not-false _ (ap not c.if-not-is_name_start.false) in
    suffix-lone c.run_end-end.ensures some (sym c.byte_at-b.ensures ∙ c.if-b-eq95.true) c.if-end-i-eq1.true

pub returns : goal.returns
returns c =
    let some = ap name_start (sym c.byte_at-b.ensures) ∙ sym c.is_name_start.ensures ∙ c.if-not-is_name_start.false in
    elim c.else-b-eq95.branch [
      | else-b-eq95-via-then-b-eq95+else-end-i-eq1 w ↦
          let lone = and_last _ _ (eq-eqb _ UNDERSCORE (sym c.byte_at-b.ensures ∙ w.if-b-eq95.true))
          ∙ ne_eqb _ 1 w.if-end-i-eq1.false in
          suffix_some c.run_end-end.ensures some lone
      | else-b-eq95-via-else-b-eq95 w ↦
          let other = ne_eqb _ UNDERSCORE (λ e. w.if-b-eq95.false (c.byte_at-b.ensures ∙ e)) in
          suffix_some c.run_end-end.ensures some (and_fails _ _ other)
    ]
