use mathlib.Core.Path.{sym, ap, ◌∙◌}
use mathlib.Core.Bool.{not}
use borrow.Author.Tests.{not-true}
use Rattle.token_list.proofs.Texts.{chosen, passed_over, and_both, and_fails, and_last}
use Rattle.source.specs.Number.{radix_digits}
use Rattle.source.specs.Contract.{ends, none}
use Rattle.source.proofs.Numbers.{digits_at, any_forth}
use Rattle.source.proofs.number.radix_digits_end.Goals as goal
use Rattle.source.proofs.number.radix_digits_end.Goals.{then-not-any_digit-via-then-not-any_digit}
use Rattle.source.proofs.number.radix_digits_end.Goals.{then-not-any_digit-via-else-not-any_digit+then-is_reserved}

pub returns-then-not-any_digit : goal.returns-then-not-any_digit
unfolding radix_digits
returns-then-not-any_digit c =
    let digits = digits_at c.run_end-end.ensures in
    elim c.then-not-any_digit.branch [
      | then-not-any_digit-via-then-not-any_digit w ↦
          let no = and_fails _ _ (sym c.any_digit.ensures ∙ not-true _ (ap not w.if-not-any_digit.true)) in
          none (digits ∙ passed_over _ _ _ no)
      | then-not-any_digit-via-else-not-any_digit+then-is_reserved w ↦
          let some = sym c.any_digit.ensures ∙ w.if-not-any_digit.false in
          let no = and_last _ _ some ∙ ap not (sym w.is_reserved.ensures ∙ w.if-is_reserved.true) in
          none (digits ∙ passed_over _ _ _ no)
    ]

pub returns : goal.returns
unfolding radix_digits
returns c = let some = sym c.any_digit.ensures ∙ c.if-not-any_digit.false in
    let fits = and_both _ _ some (ap not (sym c.is_reserved.ensures ∙ c.if-is_reserved.false)) in
    ends (record {
      taken = digits_at c.run_end-end.ensures ∙ chosen _ _ _ fits;
      forth = any_forth c.args.s.now c.args.i _ some;
      within = c.run_end-end.ensures.within c.requires;
    })
