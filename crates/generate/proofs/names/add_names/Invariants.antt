use mathlib.Core.List.{map}
use Prim.Native.Nat.{◌+◌, ◌-◌, ◌≤◌}
use lib.ListN.{length, drop}
use Rattle.generate.specs.Contract.{added}
use Rattle.writing.specs.Names.{names_of}
use Rattle.generate.proofs.Added.{Adding}
use Rattle.generate.proofs.names.add_names.Given as goal

abbrev pub invariant-loop-i : goal.invariant-loop-i
invariant-loop-i l =
    (l.i ≤ length l.text + 1)
    × Adding (map (added l.lifetimes) (names_of l.text)) l.first l.initial.b l.b l.leading
    (map (added l.lifetimes) (names_of (drop l.i l.text)))

abbrev pub decreases-loop-i : goal.decreases-loop-i
decreases-loop-i l = length l.text + 1 - l.i
