use mathlib.Core.Path.{◌≡◌, refl, sym, ap, ◌∙◌}
use mathlib.Core.Bool.{not, false≢true}
use native.Mathlib.Omega.{arith}
use borrow.Author.Tests.{eq-eqb, ne_eqb}
use Rattle.std.proofs.Common.{rules}
use Rattle.token_list.specs.Text.{printable}
use Rattle.token_list.proofs.Texts.{chosen, passed_over, and_both, and_fails, and_last}
use Rattle.source.specs.Contract.{none}
use Rattle.source.proofs.Offsets.{stands, ends_behind}
use Rattle.source.proofs.Passed.{ends_takes}
use Rattle.source.proofs.Quotes.{unit_at}
use Rattle.source.proofs.quoted.unit_end.Goals as goal
use Rattle.source.proofs.quoted.unit_end.Goals.{then-not-contains-via-then-not-contains}
use Rattle.source.proofs.quoted.unit_end.Goals.{then-not-contains-via-else-not-contains+then-b-quote}

pub returns-then-b-eq92 : goal.returns-then-b-eq92
returns-then-b-eq92 c = let e = unit_at c.args.byte c.args.s.now c.args.i c.args.quote c.byte_at-b.ensures in
    ends_behind 1 (e ∙ chosen _ _ _ (eq-eqb _ _ c.if-b-eq92.true)) c.escape_end.ensures

pub returns-then-not-contains : goal.returns-then-not-contains
returns-then-not-contains c =
    let e = unit_at c.args.byte c.args.s.now c.args.i c.args.quote c.byte_at-b.ensures in
    let shown : printable c.byte_at-b.result ≡ c.contains.result = search rules in
    elim c.then-not-contains.branch [
      | then-not-contains-via-then-not-contains w ↦
          none (e ∙ passed_over _ _ _ (ne_eqb _ _ c.if-b-eq92.false)
          ∙ passed_over _ _ _ (and_fails _ _ (shown ∙ w.if-not-contains.true)))
      | then-not-contains-via-else-not-contains+then-b-quote w ↦
          let no = and_last _ _ (shown ∙ w.if-not-contains.false) ∙ ap not (eq-eqb _ _ w.if-b-quote.true) in
          none (e ∙ passed_over _ _ _ (ne_eqb _ _ c.if-b-eq92.false) ∙ passed_over _ _ _ no)
    ]

pub returns : goal.returns
returns c =
    let e = unit_at c.args.byte c.args.s.now c.args.i c.args.quote c.byte_at-b.ensures in
    let shown : printable c.byte_at-b.result ≡ c.contains.result = search rules in
    let both = and_both _ _ (shown ∙ c.if-not-contains.false) (ap not (ne_eqb _ _ c.if-b-quote.false)) in
    let here = stands c.args.s.now c.args.i
    (λ z. false≢true (sym (ap printable (c.byte_at-b.ensures ∙ z)) ∙ shown ∙ c.if-not-contains.false)) in
    ends_takes 1 (e ∙ passed_over _ _ _ (ne_eqb _ _ c.if-b-eq92.false) ∙ chosen _ _ _ both) refl (omega arith)
    (omega arith)
