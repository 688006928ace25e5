use mathlib.Core.Path.{sym, ap, ◌∙◌}
use Prim.Native.Nat.{ℕ, ◌+◌}
use native.Mathlib.Omega.{arith}
use lib.Dec.{eqb}
use lib.ListN.{get_or}
use Rattle.std.proofs.Common.{rules}
use borrow.Author.Tests.{eq-eqb, ne_eqb}
use Rattle.token_list.proofs.Texts.{chosen, passed_over}
use Rattle.source.specs.Bytes.{SLASH, STAR}
use Rattle.source.specs.Piece.{gap_of}
use Rattle.source.specs.Contract.{gap, row, none}
use Rattle.source.proofs.Offsets.{ends_to, ends_not}
use Rattle.source.proofs.Pieces.{piece_as, one_byte, slash-stands, slash_at}
use Rattle.source.proofs.piece.slash.Goals as goal

pub returns-in-47 : goal.returns-in-47
returns-in-47 c = let next = eq-eqb _ SLASH (sym c.byte_at.ensures ∙ c.in-47.is) in
    piece_as (slash_at c.args.s.now c.args.i ∙ chosen _ _ _ next) c.line_comment.ensures

pub returns-in_err-end-in-42 : goal.returns-in_err-end-in-42
returns-in_err-end-in-42 c =
    let star = sym c.byte_at.ensures ∙ c.in-42.is in
    let block = passed_over _ _ _ (ap (λ (b : ℕ). eqb b SLASH) star) ∙ chosen _ _ _ (ap (λ (b : ℕ). eqb b STAR) star) in
    rw c.from_residual.ensures
    (none (slash_at c.args.s.now c.args.i ∙ block ∙ ap gap_of (ends_not c.in_err-end-in-42.ensures)))

pub returns-in_ok-end-in-42 : goal.returns-in_ok-end-in-42
returns-in_ok-end-in-42 c =
    let star = sym c.byte_at.ensures ∙ c.in-42.is in
    let block = passed_over _ _ _ (ap (λ (b : ℕ). eqb b SLASH) star) ∙ chosen _ _ _ (ap (λ (b : ℕ). eqb b STAR) star) in
    let to = ends_to c.in_ok-end-in-42.ensures in
    gap (record {
      told = slash_at c.args.s.now c.args.i ∙ block ∙ ap gap_of to.taken;
      forth = to.forth;
      within = to.within;
    })

pub returns-in_default : goal.returns-in_default
returns-in_default c =
    let b = get_or c.args.s.now (c.args.i + 1) 0 in
    let no = ne_eqb b SLASH (λ e. search rules) in
    let nor = ne_eqb b STAR (λ e. omega arith) in
    row (record {
      told = slash_at c.args.s.now c.args.i ∙ passed_over _ _ _ no ∙ passed_over _ _ _ nor ∙ one_byte c.args.i;
      forth = omega arith;
      within = omega (arith, slash-stands c.args.s.now c.args.i c.requires);
    })
