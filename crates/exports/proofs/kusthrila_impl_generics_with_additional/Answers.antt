use Rattle.writing.specs.Answer.{with_additional_lem}
use Rattle.exports.proofs.GeneratedCodes.{generated_low, generated_into}
use Rattle.exports.proofs.kusthrila_impl_generics_with_additional.Goals as goal

pub coded-requires : goal.coded-requires
coded-requires c = generated_low (with_additional_lem c.args.lifetimes.now c.args.types.now) c.args.list.now
    c.args.out.now _ c.min-used.ensures c.impl_generics_with_additional.ensures

pub returns : goal.returns
returns c = generated_into (with_additional_lem c.args.lifetimes.now c.args.types.now) c.args.list.now c.args.out.now _
    c.min-used.ensures c.impl_generics_with_additional.ensures c.coded.ensures
