use mathlib.Core.Path.{ap}
use mathlib.Core.Bool.{not}
use mathlib.Core.Path.{sym, ◌∙◌}
use borrow.Author.Tests.{not-false}
use Rattle.source.proofs.Numbers.{fraction_some}
use Rattle.source.proofs.number.fraction_end.Goals as goal

pub returns : goal.returns
returns c = let dot = sym c.is_dotted.ensures ∙ not-false _ (ap not c.if-not-is_dotted.false) in
    fraction_some c.run_end-end.ensures c.requires dot c.run_end.ensures
