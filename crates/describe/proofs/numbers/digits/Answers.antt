use native.Mathlib.Omega.{arith}
use Prim.Native.Nat.{◌≤◌}
use lib.IntN.{pos}
use mathlib.Core.Path.{sym, ◌∙◌, ap}
use Rattle.std.specs.Option.{option_map}
use Rattle.describe.proofs.Integers.{reading_large}
use Rattle.describe.proofs.numbers.digits.Goals as goal

pub returns-in_err-checked_mul : goal.returns-in_err-checked_mul
returns-in_err-checked_mul c =
    let some : 1 ≤ c.args.radix = omega (arith, c.requires.le_radix) in
    c.from_residual.ensures ∙
    sym
    (ap (option_map pos)
    (reading_large c.loop-i.invariant (omega arith) c.if-b-eq95.false some
    (omega (arith, c.digit_worth-digit.ensures.value)) (omega (arith, c.in_err-checked_mul.ensures))))

pub returns-in_err-n : goal.returns-in_err-n
returns-in_err-n c =
    let some : 1 ≤ c.args.radix = omega (arith, c.requires.le_radix) in
    c.from_residual-in_err-n.ensures ∙
    sym
    (ap (option_map pos)
    (reading_large c.loop-i.invariant (omega arith) c.if-b-eq95.false some
    (omega (arith, c.digit_worth-digit.ensures.value))
    (omega (arith, c.digit_worth-digit.ensures.value, c.in_ok-checked_mul.ensures, c.in_err-n.ensures))))
