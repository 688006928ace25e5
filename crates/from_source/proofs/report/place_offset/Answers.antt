-- `place_offset` meets its contract: the end mark stands at the end, a row where its text stands.
use mathlib.Core.Path.{refl, ap}
use borrow.Author.Tests.{eq-eqb, ne_eqb}
use Rattle.token_list.specs.Check.{END}
use Rattle.source.specs.Place.{Span}
use Rattle.from_source.specs.Report.{place_offset}
use Rattle.from_source.proofs.report.place_offset.Goals as goal

pub returns-then-place-eq-END : goal.returns-then-place-eq-END
unfolding place_offset
returns-then-place-eq-END c = rw (eq-eqb c.args.place END c.if-place-eq-END.true) refl

pub returns : goal.returns
unfolding place_offset
returns c = rw (ne_eqb c.args.place END c.if-place-eq-END.false) (ap (λ (p : Span). p.offset) c.row_place.ensures)
