use mathlib.Core.Bool.{not}
use mathlib.Core.Path.{ap}
use borrow.Author.Tests.{eq-eqb, ne_eqb}
use Rattle.replay.specs.Answer.{letter_fits}
use Rattle.replay.proofs.answers.letter_fits.Goals as goal

pub returns-then-not-every : goal.returns-then-not-every
unfolding letter_fits
returns-then-not-every c = rw (eq-eqb c.args.letter 46 c.if-letter-eq46.true, c.if-not-every.true)
    (ap not c.is_one_of.ensures)

pub returns-else-not-every : goal.returns-else-not-every
unfolding letter_fits
returns-else-not-every c = rw (eq-eqb c.args.letter 46 c.if-letter-eq46.true, c.if-not-every.false)

pub returns-else-letter-eq46 : goal.returns-else-letter-eq46
unfolding letter_fits
returns-else-letter-eq46 c = rw (ne_eqb c.args.letter 46 c.if-letter-eq46.false)
