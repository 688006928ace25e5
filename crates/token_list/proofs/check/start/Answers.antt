use mathlib.Core.Path.{ap}
use Prim.Native.Nat.{ℕ}
use Rattle.token_list.proofs.check.start.Goals as goal

pub returns : goal.returns
returns c = ap (λ (n : ℕ). record { at = n; row = 0 }) c.first_row.ensures
