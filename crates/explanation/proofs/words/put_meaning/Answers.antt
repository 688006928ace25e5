use Rattle.explanation.specs.Words.{meaning}
use Rattle.explanation.proofs.words.put_meaning.Goals as goal

pub returns : goal.returns
unfolding meaning
returns c = c.put_word.ensures
