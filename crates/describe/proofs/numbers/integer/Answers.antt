use native.Mathlib.Omega.{arith}
use mathlib.Core.Path.{◌∙◌}
use Rattle.describe.proofs.Integers.{integer-prefixed, integer-decimal, no_integer}
use Rattle.describe.proofs.numbers.integer.Goals as goal

pub returns-in-Some : goal.returns-in-Some
returns-in-Some c =
    c.digits.ensures ∙ integer-prefixed c.args.t.now c.in-Some.ensures.value c.in-Some.ensures.bounds.0

pub returns-in-48-to-57 : goal.returns-in-48-to-57
returns-in-48-to-57 c = c.digits-in-48-to-57.ensures ∙
    integer-decimal c.args.t.now c.in_default.ensures.value c.in-48-to-57.len_at_least (omega arith) (omega arith)

pub returns-in_default-t : goal.returns-in_default-t
returns-in_default-t c = no_integer c.args.t.now c.in_default.ensures.value (λ h k l. omega arith)

pub returns-in_default-t-2 : goal.returns-in_default-t-2
returns-in_default-t-2 c = no_integer c.args.t.now c.in_default.ensures.value (λ h k l. omega arith)

pub returns-in_default-t-3 : goal.returns-in_default-t-3
returns-in_default-t-3 c = no_integer c.args.t.now c.in_default.ensures.value (λ h k l. omega arith)
