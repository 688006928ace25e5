use mathlib.Core.Bool.{not}
use mathlib.Core.Path.{◌≡◌, sym, ap, ◌∙◌}
use Prim.Native.Nat.{◌-◌}
use native.Mathlib.Omega.{arith}
use borrow.Author.Tests.{eq-eqb, ne_eqb, not-true, not-false}
use lib.ListN.{drop}
use Rattle.token_list.proofs.Texts.{chosen, passed_over}
use Rattle.source.specs.Bytes.{BANG, in_line}
use Rattle.source.specs.Taken.{run}
use Rattle.source.specs.Piece as piece
use Rattle.source.specs.Piece.{doc_of_lem}
use Rattle.source.specs.Contract.{gap, doc, none}
use Rattle.source.proofs.Offsets.{ends_to, ends_not}
use Rattle.source.proofs.Runs.{run_on}
use Rattle.source.proofs.Pieces.{doc_long, slash-stands, outer-stands, line_at}
use Rattle.source.proofs.piece.line_comment.Goals as goal

pub returns-then-byte_at-eq33 : goal.returns-then-byte_at-eq33
returns-then-byte_at-eq33 c = let bang = eq-eqb _ BANG (sym c.byte_at.ensures ∙ c.if-byte_at-eq33.true) in
    none (line_at c.args.s.now c.args.i ∙ chosen _ _ _ bang)

pub returns-then-not-is_outer_line : goal.returns-then-not-is_outer_line
unfolding in_line
returns-then-not-is_outer_line c = let other = ne_eqb _ BANG (λ e. c.if-byte_at-eq33.false (c.byte_at.ensures ∙ e)) in
    let plain = sym c.is_outer_line.ensures ∙ not-true _ (ap not c.if-not-is_outer_line.true) in
    let line = c.run_end.ensures in
    let here = slash-stands c.args.s.now c.args.i c.requires.i_value in
    let some = run_on in_line c.args.s.now c.args.i here (ap in_line c.requires.i_value) in
    let n : run in_line (drop c.args.i c.args.s.now) ≡ c.run_end.result - c.args.i = omega (arith, line.told) in
    gap (record {
      told = line_at c.args.s.now c.args.i ∙ passed_over _ _ _ other ∙ passed_over _ _ _ plain ∙ ap piece.gap n;
      forth = omega (arith, some, line.told);
      within = line.within (omega (arith, here));
    })

pub doc_line_end-requires : goal.doc_line_end-requires
doc_line_end-requires c = let outer = sym c.is_outer_line.ensures ∙ not-false _ (ap not c.if-not-is_outer_line.false) in
    omega (arith, outer-stands c.args.s.now c.args.i outer)

pub returns-in_err-end : goal.returns-in_err-end
returns-in_err-end c = let other = ne_eqb _ BANG (λ e. c.if-byte_at-eq33.false (c.byte_at.ensures ∙ e)) in
    let told = c.is_outer_line.ensures in
    let outer = sym told ∙ not-false _ (ap not c.if-not-is_outer_line.false) in
    let whole = line_at c.args.s.now c.args.i ∙ passed_over _ _ _ other ∙ chosen _ _ _ outer in
    rw c.from_residual.ensures (none (whole ∙ ap doc_of_lem (ends_not c.in_err-end.ensures)))

pub returns : goal.returns
returns c = let other = ne_eqb _ BANG (λ e. c.if-byte_at-eq33.false (c.byte_at.ensures ∙ e)) in
    let told = c.is_outer_line.ensures in
    let outer = sym told ∙ not-false _ (ap not c.if-not-is_outer_line.false) in
    let to = ends_to c.in_ok-end.ensures in
    let whole = line_at c.args.s.now c.args.i ∙ passed_over _ _ _ other ∙ chosen _ _ _ outer in
    let long = doc_long c.args.s.now c.args.i to in
    doc (record { told = whole ∙ ap doc_of_lem to.taken; forth = to.forth; within = to.within }) long
