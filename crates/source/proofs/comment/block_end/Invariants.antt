-- `block_end` meets its contract: of the comment the bytes before i are passed, and so many others are open there.
use Prim.Native.Nat.{◌-◌, ◌≤◌}
use lib.ListN.{length, drop}
use Rattle.source.specs.Comment.{block}
use Rattle.source.proofs.Passed.{Passed}
use Rattle.source.proofs.comment.block_end.Given as goal

abbrev pub invariant-loop-i : goal.invariant-loop-i
invariant-loop-i l = (l.depth ≤ l.i) × Passed (block 0 0 (drop l.from l.s)) l.from l.i (block l.depth 0 (drop l.i l.s))

abbrev pub decreases-loop-i : goal.decreases-loop-i
decreases-loop-i l = length l.s - l.i
