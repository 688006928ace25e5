use Rattle.generate.proofs.Answers.{type-writer, answered}
use Rattle.generate.proofs.generics.type_generics.Goals as goal

pub returns : goal.returns
returns c = answered type-writer c.write.ensures
