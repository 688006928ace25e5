use Rattle.describe.proofs.Integers.{Reading}
use Rattle.describe.proofs.numbers.digits.Given as goal

abbrev pub invariant-loop-i : goal.invariant-loop-i
invariant-loop-i l = Reading l.t l.radix l.any l.n l.i
