use Rattle.explanation.specs.Words.{role_words}
use Rattle.explanation.proofs.words.put_role.Goals as goal

pub returns : goal.returns
unfolding role_words
returns c = c.put_word.ensures
