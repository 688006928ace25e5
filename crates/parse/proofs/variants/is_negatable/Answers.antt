use Rattle.parse.proofs.Bodies.{negatable-start, no_digit, too_large}
use Rattle.reading.specs.Token.{negatable}
use Rattle.token_list.proofs.Texts.{slice_cut}
use Rattle.std.proofs.Common.{inl, inr}
use Rattle.std.proofs.Math.Nat.{min-eq_left}
use mathlib.Core.Path.{sym, ◌∙◌, ap}
use Rattle.parse.proofs.variants.is_negatable.Goals as goal

pub loop-b-init : goal.loop-b-init
loop-b-init c =
    ap negatable (sym (slice_cut c.args.s.now c.args.start c.args.end _ _ (sym (min-eq_left c.requires)) c.min.ensures))
    ∙ negatable-start _

pub returns-then-not-is_ascii_digit : goal.returns-then-not-is_ascii_digit
returns-then-not-is_ascii_digit c = sym (c.loop-b.invariant ∙ elim c.then-not-is_ascii_digit.either [
  | inl other ↦ no_digit _ _ _ c.loop-b-test.true (sym c.is_ascii_digit.ensures.value ∙ other)
  | inr (digit, more) ↦ too_large _ _ _ c.loop-b-test.true more
])
