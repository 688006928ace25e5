use mathlib.Core.Path.{sym, ap, ◌∙◌}
use mathlib.Core.Bool.{not}
use native.Mathlib.Omega.{arith}
use borrow.Author.Tests.{not-true, not-false}
use Rattle.token_list.proofs.Texts.{chosen, passed_over}
use Rattle.source.specs.Taken.{after}
use Rattle.source.specs.Contract.{ends, none}
use Rattle.source.proofs.Offsets.{ends_from}
use Rattle.source.proofs.Numbers.{exponent_at, exponent-digits, any_forth}
use Rattle.source.proofs.number.exponent_end.Goals as goal

pub returns : goal.returns
returns c = let some = sym c.any_digit.ensures ∙ not-false _ (ap not c.if-not-any_digit.false) in
    let from = c.sign_end-start.result in
    ends_from from (omega (arith, c.sign_end-start.ensures.told)) (exponent_at c.sign_end-start.ensures) (ends (record {
      taken = exponent-digits c.run_end-end.ensures ∙ chosen _ _ _ some;
      forth = any_forth c.args.s.now from _ some;
      within = c.run_end-end.ensures.within c.sign_end-start.ensures.within;
    }))

pub returns-then-not-any_digit : goal.returns-then-not-any_digit
returns-then-not-any_digit c = let no = sym c.any_digit.ensures ∙ not-true _ (ap not c.if-not-any_digit.true) in
    none
    (exponent_at c.sign_end-start.ensures ∙ ap (after _)
    (exponent-digits c.run_end-end.ensures ∙ passed_over _ _ _ no))
