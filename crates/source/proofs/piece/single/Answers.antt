use mathlib.Core.Path.{sym, ◌∙◌}
use native.Mathlib.Omega.{arith}
use Rattle.token_list.proofs.Texts.{chosen, passed_over}
use Rattle.source.specs.Bytes.{opens, closes}
use Rattle.source.specs.Piece.{single}
use Rattle.source.specs.Contract.{row, none}
use Rattle.source.proofs.Pieces.{one_byte}
use Rattle.source.proofs.piece.single.Goals as goal

pub returns-then-is_one_of : goal.returns-then-is_one_of
unfolding single opens closes
returns-then-is_one_of c = let opened = sym c.is_one_of.ensures ∙ c.if-is_one_of.true in
    row (record { told = chosen _ _ _ opened ∙ one_byte c.args.i; forth = omega arith; within = omega arith })

pub returns-then-is_one_of-2 : goal.returns-then-is_one_of-2
unfolding single opens closes
returns-then-is_one_of-2 c = let no = sym c.is_one_of.ensures ∙ c.if-is_one_of.false in
    let closed = sym c.is_one_of-2.ensures ∙ c.if-is_one_of-2.true in
    row (record {
      told = passed_over _ _ _ no ∙ chosen _ _ _ closed ∙ one_byte c.args.i;
      forth = omega arith;
      within = omega arith;
    })

pub returns-then-is_punctuation : goal.returns-then-is_punctuation
unfolding single opens closes
returns-then-is_punctuation c = let no = sym c.is_one_of.ensures ∙ c.if-is_one_of.false in
    let nor = sym c.is_one_of-2.ensures ∙ c.if-is_one_of-2.false in
    let mark = sym c.is_punctuation.ensures ∙ c.if-is_punctuation.true in
    row (record {
      told = passed_over _ _ _ no ∙ passed_over _ _ _ nor ∙ chosen _ _ _ mark ∙ one_byte c.args.i;
      forth = omega arith;
      within = omega arith;
    })

pub returns : goal.returns
unfolding single opens closes
returns c = let no = sym c.is_one_of.ensures ∙ c.if-is_one_of.false in
    let nor = sym c.is_one_of-2.ensures ∙ c.if-is_one_of-2.false in
    let mark = sym c.is_punctuation.ensures ∙ c.if-is_punctuation.false in
    none (passed_over _ _ _ no ∙ passed_over _ _ _ nor ∙ passed_over _ _ _ mark)
