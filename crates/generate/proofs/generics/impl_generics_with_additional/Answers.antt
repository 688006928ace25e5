use Rattle.generate.proofs.Answers.{additional-writer, answered}
use Rattle.generate.proofs.generics.impl_generics_with_additional.Goals as goal

pub returns : goal.returns
returns c = answered (additional-writer c.args.lifetimes.now c.args.types.now) c.write.ensures
