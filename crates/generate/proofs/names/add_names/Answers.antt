use native.Mathlib.Omega.{arith}
use mathlib.Core.List.{List, [], ◌∷◌}
use Prim.Native.Nat.{ℕ}
use Rattle.writing.specs.Generics.{parted}
use Rattle.token_list.specs.Row.{Row}
use Rattle.generate.specs.Contract.{added}
use Rattle.generate.proofs.Builds.{of_part}
use Rattle.generate.proofs.Added.{adding-more}
use Rattle.generate.proofs.names.add_names.Goals as goal

pub loop-i-preserved : goal.loop-i-preserved
loop-i-preserved c = let rows : List ℕ → List Row = λ t. parted c.loop-i.leading (added c.args.lifetimes t ∷ []) in (
  omega (arith, c.name_end-end.ensures.within),
  adding-more (rw c.name_end-end.ensures.names at c.loop-i.invariant.1)
      (of_part rows c.loop-i.i c.name_end-end.result c.args.text.now c.add_name.ensures),
)
