use Rattle.generate.proofs.Answers.{impl_writer, answered}
use Rattle.generate.proofs.generics.impl_generics.Goals as goal

pub returns : goal.returns
returns c = answered impl_writer c.write.ensures
