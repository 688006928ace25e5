use Rattle.replay.proofs.answers.is.Goals as goal

pub returns : goal.returns
returns c = c.compare.ensures.same
