use mathlib.Core.Path.{sym, ap, ◌∙◌}
use Prim.Native.Nat.{◌+◌}
use native.Mathlib.Omega.{arith}
use Rattle.source.specs.Number.{radix_of}
use Rattle.source.proofs.Offsets.{ends_as, ends_behind}
use Rattle.source.proofs.Numbers.{number-decimal, number_no_radix, number-radix, radix-stands}
use Rattle.source.proofs.number.number_end.Goals as goal

pub returns-then-byte_at-ne48 : goal.returns-then-byte_at-ne48
returns-then-byte_at-ne48 c = let other = number-decimal c.args.s.now c.args.i (λ e. c.if-byte_at-ne48.true
    (c.byte_at.ensures ∙ e)) in
    ends_as other c.decimal_end.ensures

pub returns-in_default : goal.returns-in_default
returns-in_default c =
    let radix = ap radix_of (sym c.byte_at-2.ensures) ∙ c.in_default.ensures in
    ends_as (number_no_radix c.args.s.now c.args.i radix) c.decimal_end-in_default.ensures

pub radix_digits_end-requires : goal.radix_digits_end-requires
radix_digits_end-requires c =
    let radix = c.in-Some.ensures.0 ∙ ap radix_of c.byte_at-2.ensures in
    omega (arith, radix-stands c.args.s.now (c.args.i + 1) (λ e. c.in-Some.ensures.1 (radix ∙ e)))

pub returns : goal.returns
returns c = let zero = sym c.byte_at.ensures ∙ c.if-byte_at-ne48.false in
    let radix = c.in-Some.ensures.0 ∙ ap radix_of c.byte_at-2.ensures in
    let digits = number-radix c.args.s.now c.args.i zero radix c.in-Some.ensures.1 in
    ends_behind 2 digits c.radix_digits_end.ensures
