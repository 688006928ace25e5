-- `hex_digits_end` meets its contract: of the digits the bytes before i are passed, `count` of them digits, worth v.
use Prim.Native.Nat.{◌^◌, ◌≤◌, ◌<◌}
use lib.ListN.{drop}
use Rattle.source.specs.Quoted.{hex_digits}
use Rattle.source.proofs.Passed.{Passed}
use Rattle.source.proofs.quoted.hex_digits_end.Given as goal

abbrev pub invariant-loop-i : goal.invariant-loop-i
invariant-loop-i l =
    (l.count ≤ 6) × (l.v < 16 ^ l.count)
    × Passed (hex_digits 0 0 (drop l.from l.s)) l.from l.i (hex_digits l.count l.v (drop l.i l.s))
