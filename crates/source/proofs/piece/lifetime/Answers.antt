use mathlib.Core.Path.{sym, ap, ◌∙◌}
use mathlib.Core.Bool.{not}
use Prim.Native.Nat.{◌+◌}
use lib.ListN.{get_or}
use native.Mathlib.Omega.{arith}
use borrow.Author.Tests.{eq-eqb, ne_eqb, not-true, not-false}
use Rattle.token_list.specs.Byte.{QUOTE}
use Rattle.token_list.specs.Text.{name_start}
use Rattle.token_list.proofs.Texts.{chosen, passed_over, and_both}
use Rattle.source.specs.Contract.{lifetime, none}
use Rattle.source.proofs.Offsets.{and_fails_last}
use Rattle.source.proofs.Pieces.{lifetime_none, lifetime_at}
use Rattle.source.proofs.piece.lifetime.Goals as goal

pub returns-then-not-is_name_start : goal.returns-then-not-is_name_start
returns-then-not-is_name_start c =
    let no = ap name_start (sym c.byte_at.ensures) ∙ sym c.is_name_start.ensures
    ∙ not-true _ (ap not c.if-not-is_name_start.true) in
    none (lifetime_none c.args.s.now c.args.i no)

pub returns-then-byte_at-eq39 : goal.returns-then-byte_at-eq39
returns-then-byte_at-eq39 c = let whole = lifetime_at c.args.s.now c.args.i c.run_end-end.ensures in
    let quote = ap not (eq-eqb _ QUOTE (sym c.byte_at-2.ensures ∙ c.if-byte_at-eq39.true)) in
    none (whole ∙ passed_over _ _ _ (and_fails_last (name_start (get_or c.args.s.now (c.args.i + 1) 0)) quote))

pub returns : goal.returns
returns c =
    let some = ap name_start (sym c.byte_at.ensures) ∙ sym c.is_name_start.ensures
    ∙ not-false _ (ap not c.if-not-is_name_start.false) in
    let unquoted = ap not (ne_eqb _ QUOTE (λ e. c.if-byte_at-eq39.false (c.byte_at-2.ensures ∙ e))) in
    lifetime (record {
      told = lifetime_at c.args.s.now c.args.i c.run_end-end.ensures ∙ chosen _ _ _ (and_both _ _ some unquoted);
      forth = omega (arith, c.run_end-end.ensures.told);
      within = c.run_end-end.ensures.within (omega arith);
    })
