use Rattle.writing.specs.Answer.{type_generics_lem}
use Rattle.exports.proofs.GeneratedCodes.{generated_low, generated_into}
use Rattle.exports.proofs.kusthrila_type_generics.Goals as goal

pub coded-requires : goal.coded-requires
coded-requires c = generated_low type_generics_lem c.args.list.now
    c.args.out.now _ c.min-used.ensures c.type_generics.ensures

pub returns : goal.returns
returns c = generated_into type_generics_lem c.args.list.now c.args.out.now _
    c.min-used.ensures c.type_generics.ensures c.coded.ensures
