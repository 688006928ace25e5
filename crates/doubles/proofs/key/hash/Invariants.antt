use mathlib.Core.Path.{◌≡◌}
use Prim.Native.Nat.{◌<◌}
use lib.ListN.{drop}
use Rattle.doubles.specs.Key.{BOUND, hash}
use Rattle.doubles.proofs.key.hash.Given as goal

-- the text's number is that of what is left of it, after the number so far
abbrev pub invariant-loop-b : goal.invariant-loop-b
invariant-loop-b l = (hash 0 l.text ≡ hash l.h (drop l.b-index l.text)) × (l.h < BOUND)
