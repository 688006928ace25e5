use mathlib.Core.Logic.{inl}
use mathlib.Core.Path.{ap}
use native.Mathlib.Omega.{arith}
use lib.ListN.{length}
use Rattle.token_list.specs.Layout.{first_row}
use Rattle.explanation.proofs.Lengths.{rows-within}
use Rattle.explanation.proofs.rows.count_rows.Goals as goal

pub count-requires-clause-fits : goal.count-requires-clause-fits
count-requires-clause-fits c =
    inl (omega (arith, ap length c.rows_of.ensures, rows-within c.args.list.now (first_row c.args.list.now)))
