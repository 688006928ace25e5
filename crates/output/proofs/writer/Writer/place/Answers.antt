use Rattle.output.specs.Text.{place_text}
use Rattle.token_list.specs.Check.{END}
use borrow.Author.Tests.{eq-eqb, ne_eqb}
use Rattle.output.proofs.writer.Writer.place.Goals as goal

pub returns-then-place-eq-END : goal.returns-then-place-eq-END
unfolding place_text
returns-then-place-eq-END c = rw (eq-eqb c.args.place END c.if-place-eq-END.true) c.byte.ensures

pub returns-else-place-eq-END : goal.returns-else-place-eq-END
unfolding place_text
returns-else-place-eq-END c = rw (ne_eqb c.args.place END c.if-place-eq-END.false) c.number.ensures
