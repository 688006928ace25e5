use native.Mathlib.Omega.{arith}
use Rattle.describe.proofs.Integers.{radix_is, binary, octal, hexadecimal, no_radix}
use Rattle.describe.proofs.numbers.radix.Goals as goal

pub returns-in-48-clause-value : goal.returns-in-48-clause-value
returns-in-48-clause-value c = radix_is c.args.t.now c.in-48.len_at_least (omega arith) (binary (omega arith))

pub returns-in-48-2-clause-value : goal.returns-in-48-2-clause-value
returns-in-48-2-clause-value c =
    radix_is c.args.t.now c.in-48-2.len_at_least (omega arith) (octal (omega arith))

pub returns-in-48-3-clause-value : goal.returns-in-48-3-clause-value
returns-in-48-3-clause-value c =
    radix_is c.args.t.now c.in-48-3.len_at_least (omega arith) (hexadecimal (omega arith))

pub returns-in_default-2-clause-value : goal.returns-in_default-2-clause-value
returns-in_default-2-clause-value c =
    radix_is c.args.t.now c.in_default.len_at_least (omega arith)
    (no_radix (λ e. omega arith) (λ e. omega arith) (λ e. omega arith))
