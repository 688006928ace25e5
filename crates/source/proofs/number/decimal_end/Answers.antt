use mathlib.Core.Bool.{not}
use mathlib.Core.Path.{sym, ap, ◌∙◌}
use Prim.Native.Nat.{◌+◌}
use native.Mathlib.Omega.{arith}
use borrow.Author.Tests.{not-true, not-false}
use Rattle.source.specs.Number.{exponent_start}
use Rattle.source.specs.Contract.{ends}
use Rattle.source.proofs.Offsets.{ends_from}
use Rattle.source.proofs.Numbers.{digit-stands, decimal_plain, decimal-exponent, exponent-stands, fraction_forth}
use Rattle.source.proofs.number.decimal_end.Goals as goal

pub fraction_end-end-requires : goal.fraction_end-end-requires
fraction_end-end-requires c = let here = digit-stands c.args.s.now c.args.i
    c.requires in omega (arith, here)

pub returns-then-not-starts_exponent : goal.returns-then-not-starts_exponent
returns-then-not-starts_exponent c =
    let plain = ap exponent_start (sym c.byte_at.ensures) ∙ sym c.starts_exponent.ensures
    ∙ not-true _ (ap not c.if-not-starts_exponent.true) in
    ends (record {
      taken = decimal_plain c.fraction_end-end.ensures plain;
      forth = fraction_forth c.requires c.fraction_end-end.ensures;
      within = c.fraction_end-end.ensures.within;
    })

pub exponent_end-requires : goal.exponent_end-requires
exponent_end-requires c =
    let exponent = ap exponent_start (sym c.byte_at.ensures) ∙ sym c.starts_exponent.ensures ∙ not-false _
    (ap not c.if-not-starts_exponent.false) in
    omega (arith, exponent-stands c.args.s.now c.fraction_end-end.result exponent)

pub returns : goal.returns
returns c = let exponent =
    ap exponent_start (sym c.byte_at.ensures) ∙ sym c.starts_exponent.ensures
    ∙ not-false _ (ap not c.if-not-starts_exponent.false)
    in
    let forth = fraction_forth c.requires c.fraction_end-end.ensures in
    ends_from (c.fraction_end-end.result + 1) (omega (arith, forth))
    (decimal-exponent c.fraction_end-end.ensures exponent) c.exponent_end.ensures
