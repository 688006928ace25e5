use Prim.Native.Nat.{◌-◌}
use lib.ListN.{length}
use mathlib.Core.List.{List}
use mathlib.Core.Path.{◌≡◌}
use Rattle.token_list.specs.Contract.{InList}
use Rattle.parse.specs.Contract as contract
use Rattle.reading.specs.Reading as reading
use Rattle.reading.specs.Declaration as declaration
use Rattle.describe.specs.Value.{value_at}
use Rattle.reading.specs.Place.{variant_at}
use Rattle.describe.proofs.value.find.Given as goal

abbrev pub invariant-loop-v : goal.invariant-loop-v
invariant-loop-v l =
    InList l.s l.c × (length l.roles ≡ length l.initial.roles)
    × (variant_at l.position (contract.point l.s l.initial.c) ≡
    variant_at l.left (contract.point l.s l.c))
    × ((vs : List declaration.Variant) → contract.InsideAt (reading.every reading.variant) l.s l.initial.c vs
    → (ws : List declaration.Variant) × contract.InsideAt (reading.every reading.variant) l.s l.c ws ×
    (value_at l.position vs ≡ value_at l.left ws))

abbrev pub decreases-loop-v : goal.decreases-loop-v
decreases-loop-v l = length l.s - l.c.at
