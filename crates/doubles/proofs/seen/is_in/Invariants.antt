-- `is_in` meets its contract: no key from `link` on is the same, and the one that it leads to has the remainder.
use mathlib.Core.List.{List}
use lib.ListN.{length}
use Rattle.doubles.specs.Key.{Key}
use Rattle.doubles.specs.Contract.{key_of, Holds}
use Rattle.doubles.proofs.Tables.{Looking}
use Rattle.doubles.proofs.seen.is_in.Given as goal

abbrev pub invariant-loop-link : goal.invariant-loop-link
invariant-loop-link l =
    (ks : List Key) → Holds l.bytes l.words l.numbers ks → Looking (length l.numbers) ks (key_of l.bytes l.key) l.link

abbrev pub decreases-loop-link : goal.decreases-loop-link
decreases-loop-link l = l.link
