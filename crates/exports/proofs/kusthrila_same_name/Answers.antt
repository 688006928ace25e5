use mathlib.Core.Bool.{Bool, true, false}
use Prim.Native.Nat.{◌≤◌}
use native.Mathlib.Omega.{arith}
use mir.Val.{bool_byte}
use Rattle.token_list.proofs.Pairs.{pairs_most}
use Rattle.exports.proofs.kusthrila_same_name.Goals as goal

byte_low : (t : Bool) → bool_byte t ≤ 1
byte_low true = omega arith
byte_low false = omega arith

-- a slice has fewer than 2^63 bytes
pub overflow_mul-result : goal.overflow_mul-result
overflow_mul-result c = omega (arith, c.compare-compared.ensures.pairs, pairs_most c.args.a.now c.args.b.now)

pub overflow_add-result : goal.overflow_add-result
overflow_add-result c = omega (
  arith,
  c.compare-compared.ensures.pairs,
  pairs_most c.args.a.now c.args.b.now,
  c.from.ensures,
  byte_low c.compare-compared.result.same,
)
