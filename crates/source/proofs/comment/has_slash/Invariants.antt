-- `has_slash` meets its contract: unless one was seen, no `/` stands among the bytes so far.
use mathlib.Core.Path.{◌≡◌}
use mathlib.Core.Bool.{false}
use Prim.Native.Nat.{ℕ, ◌<◌}
use lib.ListN.{get_or}
use Rattle.source.specs.Bytes.{SLASH}
use Rattle.source.proofs.comment.has_slash.Given as goal

abbrev pub invariant-loop-b : goal.invariant-loop-b
invariant-loop-b l = l.any ≡ false → (k : ℕ) → k < l.b-index → get_or l.b-items k 0 ≡ SLASH → ⊥
