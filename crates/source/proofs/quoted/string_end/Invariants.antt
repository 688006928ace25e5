-- `string_end` meets its contract: of the string the bytes before i are passed.
use Prim.Native.Nat.{◌-◌}
use lib.ListN.{length, drop}
use Rattle.source.specs.Quoted.{string}
use Rattle.source.proofs.Passed.{Passed}
use Rattle.source.proofs.quoted.string_end.Given as goal

abbrev pub invariant-loop-i : goal.invariant-loop-i
invariant-loop-i l = Passed (string l.byte 0 (drop l.from l.s)) l.from l.i (string l.byte 0 (drop l.i l.s))

abbrev pub decreases-loop-i : goal.decreases-loop-i
decreases-loop-i l = length l.s - l.i
