use mathlib.Core.Path.{◌∙◌}
use native.Mathlib.Omega.{arith}
use borrow.Author.Tests.{eq-eqb, ne_eqb}
use Rattle.token_list.proofs.Texts.{chosen, passed_over}
use Rattle.source.specs.Contract.{ends, none}
use Rattle.source.proofs.Offsets.{stands, ends_to, ends_not}
use Rattle.source.proofs.Quotes.{character-none, character_at}
use Rattle.source.proofs.quoted.character_end.Goals as goal

pub returns-in_err-e : goal.returns-in_err-e
returns-in_err-e c =
    rw c.from_residual.ensures (none (character-none c.args.byte c.args.s.now c.args.i (ends_not c.in_err-e.ensures)))

pub returns-then-byte_at-ne39 : goal.returns-then-byte_at-ne39
returns-then-byte_at-ne39 c =
    let e = character_at c.args.byte c.args.s.now c.args.i (ends_to c.in_ok-e.ensures) c.byte_at.ensures in
    none (e ∙ passed_over _ _ _ (ne_eqb _ _ c.if-byte_at-ne39.true))

pub returns : goal.returns
returns c =
    let u = ends_to c.in_ok-e.ensures in
    let e = character_at c.args.byte c.args.s.now c.args.i u c.byte_at.ensures in
    let h = stands c.args.s.now c.in_ok-e.e (λ z. omega arith) in
    ends (record {
      taken = e ∙ chosen _ _ _ (eq-eqb _ _ c.if-byte_at-ne39.false);
      forth = omega (arith, u.forth);
      within = omega arith;
    })
