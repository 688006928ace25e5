use mathlib.Core.Path.{◌∙◌}
use mathlib.Core.Bool.{not}
use lib.Dec.{eqb}
use Rattle.std.proofs.Common.{rules, tests}
use Rattle.std.proofs.lemmas.Iterator.{YieldsList-from_slice}
use Rattle.std.proofs.lemmas.Iterator.Search.{any_from_yields_List}
use Rattle.token_list.specs.Byte.{UNDERSCORE}
use Rattle.source.proofs.Numbers.{any_other}
use Rattle.source.proofs.number.any_digit.Goals as goal

pub returns : goal.returns
returns c =
    let run = c.args.run.now in
    any_from_yields_List (λ b. not (eqb b UNDERSCORE)) _ _ c.any.result c.any.ensures.ran (YieldsList-from_slice run cc)
    (λ x b q k. search (rules, tests)) ∙ any_other run
