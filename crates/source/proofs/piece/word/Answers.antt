use mathlib.Core.Path.{sym, ap, ◌∙◌}
use Prim.Native.Nat.{ℕ}
use native.Mathlib.Omega.{arith}
use Rattle.token_list.specs.Byte.{bytes}
use Rattle.token_list.specs.Text.{member}
use Rattle.token_list.proofs.Texts.{chosen, passed_over}
use Rattle.source.specs.Contract.{row}
use Rattle.source.proofs.Pieces.{piece_as, name-stands, name_forth, mark_stands, word_at}
use Rattle.source.proofs.piece.word.Goals as goal

pub prefixed-requires : goal.prefixed-requires
prefixed-requires c = let mark = ap (λ (x : ℕ). member x (bytes "\"'#")) (sym c.byte_at.ensures)
    ∙ sym c.is_one_of.ensures ∙ c.if-is_one_of.true in
    let last = mark_stands c.args.s.now c.run_end-end.result mark in
    record { i_lt_end = name_forth c.requires c.run_end-end.ensures; end_in_bounds = last }

pub returns-then-is_one_of : goal.returns-then-is_one_of
returns-then-is_one_of c = let mark = ap (λ (x : ℕ). member x (bytes "\"'#")) (sym c.byte_at.ensures)
    ∙ sym c.is_one_of.ensures ∙ c.if-is_one_of.true in
    let whole = word_at c.args.s.now c.args.i c.run_end-end.ensures in
    piece_as (whole ∙ chosen _ _ _ mark) c.prefixed.ensures

pub returns : goal.returns
returns c = let mark = ap (λ (x : ℕ). member x (bytes "\"'#")) (sym c.byte_at.ensures)
    ∙ sym c.is_one_of.ensures ∙ c.if-is_one_of.false in
    row (record {
      told = word_at c.args.s.now c.args.i c.run_end-end.ensures ∙ passed_over _ _ _ mark;
      forth = name_forth c.requires c.run_end-end.ensures;
      within = c.run_end-end.ensures.within (omega (arith, name-stands c.args.s.now c.args.i c.requires));
    })
