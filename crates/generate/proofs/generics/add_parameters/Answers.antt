use native.Mathlib.Omega.{arith}
use mathlib.Core.Path.{◌≡◌}
use Rattle.std.specs.Prelude.{Ok}
use Rattle.parse.specs.declared.generics.ParameterAt.{ParameterAt}
use Rattle.parse.specs.declared.utils.Next.TheVariants.{One}
use Rattle.generate.proofs.Parameters.{turned-less, turned-in, turned_more, turned_done}
use Rattle.generate.proofs.generics.add_parameters.Goals.{in_default, in_default-2}
use Rattle.generate.proofs.generics.add_parameters.Goals as goal

pub add_parameter-requires : goal.add_parameter-requires
add_parameter-requires c = let one = rw c.in-Ok-One.field-0-is at c.in-Ok-One.ensures in
    turned-in c.loop-p.invariant _ one c.requires.by_index.1

pub loop-p-smaller : goal.loop-p-smaller
loop-p-smaller c = let one = rw c.in-Ok-One.field-0-is at c.in-Ok-One.ensures in
    turned-less c.loop-p.invariant c.in-Ok-One.p one

pub loop-p-preserved : goal.loop-p-preserved
loop-p-preserved c = let one = rw c.in-Ok-One.field-0-is at c.in-Ok-One.ensures in
    turned_more c.loop-p.invariant _ one c.requires.by_index.1 c.add_parameter.ensures

pub returns : goal.returns
returns c =
    let none : (p : ParameterAt) → c.parameter.result ≡ Ok (One p) → ⊥ =
    elim c.match-parameter.branch [
      | in_default w ↦ λ p e. grind arith
      | in_default-2 w ↦ λ p e. grind arith
    ] in
    turned_done c.loop-p.invariant c.parameter.result c.parameter.ensures none c.add_names.ensures
