use native.Mathlib.Nat.{mod-lt}
use native.Mathlib.Omega.{arith}
use lib.ListN.{length, length-set}
use Rattle.doubles.proofs.seen.add.Goals as goal

pub offset_bounds-words-bucket : goal.offset_bounds-words-bucket
offset_bounds-words-bucket c = omega (arith, mod-lt c.args.key.number {m = length c.args.numbers.now} (omega arith))

pub bounds-words-bucket : goal.bounds-words-bucket
bounds-words-bucket c = omega (arith, mod-lt c.args.key.number {m = length c.args.numbers.now} (omega arith))

pub bounds-words-at-2 : goal.bounds-words-at-2
bounds-words-at-2 c = simp length-set (omega arith)

pub bounds-words-at-3 : goal.bounds-words-at-3
bounds-words-at-3 c = simp length-set (omega arith)

pub offset_bounds-words-bucket-2 : goal.offset_bounds-words-bucket-2
offset_bounds-words-bucket-2 c = omega (arith, mod-lt c.args.key.number {m = length c.args.numbers.now} (omega arith))

pub bounds-words-bucket-2 : goal.bounds-words-bucket-2
bounds-words-bucket-2 c =
    simp length-set (omega (arith, mod-lt c.args.key.number {m = length c.args.numbers.now} (omega arith)))
