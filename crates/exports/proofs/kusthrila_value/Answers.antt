use Rattle.std.proofs.Common.{rules}
use Rattle.exports.specs.Code.{place_number}
use Rattle.exports.proofs.Codes.{mapped, value_low, value_into}
use Rattle.exports.proofs.kusthrila_value.Goals as goal

pub coded-requires : goal.coded-requires
coded-requires c = let placed = c.value_of.ensures in
    value_low c.args.list.now c.args.position c.args.scratch.now _ placed.placed placed.by_index c.map.result
    (mapped place_number c.value_of.result c.map.result c.map.ensures.cases (λ x n k. search rules))

pub returns : goal.returns
returns c = let placed = c.value_of.ensures in
    value_into c.args.list.now c.args.position c.args.scratch.now _ placed.placed placed.by_index c.map.result
    (mapped place_number c.value_of.result c.map.result c.map.ensures.cases (λ x n k. search rules))
    c.coded.ensures
