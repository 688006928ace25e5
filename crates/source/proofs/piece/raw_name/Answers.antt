use mathlib.Core.Path.{sym, ap, ◌∙◌}
use mathlib.Core.Bool.{not}
use Prim.Native.Nat.{◌+◌}
use lib.ListN.{get_or}
use native.Mathlib.Omega.{arith}
use borrow.Author.Tests.{not-true, not-false}
use Rattle.token_list.specs.Text.{name_start}
use Rattle.token_list.proofs.Texts.{chosen, passed_over, and_both}
use Rattle.source.specs.Contract.{row, none}
use Rattle.source.proofs.Offsets.{and_fails_last}
use Rattle.source.proofs.Pieces.{raw_none, raw_at}
use Rattle.source.proofs.piece.raw_name.Goals as goal

pub returns-then-not-is_name_start : goal.returns-then-not-is_name_start
returns-then-not-is_name_start c =
    let no = ap name_start (sym c.byte_at.ensures) ∙ sym c.is_name_start.ensures
    ∙ not-true _ (ap not c.if-not-is_name_start.true) in
    none (raw_none c.args.s.now c.args.i no)

pub is_never_raw-requires : goal.is_never_raw-requires
is_never_raw-requires c = c.run_end-end.ensures.within c.requires

pub returns-then-is_never_raw : goal.returns-then-is_never_raw
returns-then-is_never_raw c = let whole = raw_at c.args.s.now c.args.i c.run_end-end.ensures in
    let never = ap not (sym c.is_never_raw.ensures ∙ c.if-is_never_raw.true) in
    none (whole ∙ passed_over _ _ _ (and_fails_last (name_start (get_or c.args.s.now (c.args.i + 2) 0)) never))

pub returns : goal.returns
returns c =
    let some = ap name_start (sym c.byte_at.ensures) ∙ sym c.is_name_start.ensures
    ∙ not-false _ (ap not c.if-not-is_name_start.false) in
    let raw = ap not (sym c.is_never_raw.ensures ∙ c.if-is_never_raw.false) in
    row (record {
      told = raw_at c.args.s.now c.args.i c.run_end-end.ensures ∙ chosen _ _ _ (and_both _ _ some raw);
      forth = omega (arith, c.run_end-end.ensures.told);
      within = c.run_end-end.ensures.within c.requires;
    })
