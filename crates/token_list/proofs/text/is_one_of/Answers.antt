use mathlib.Core.Path.{◌∙◌}
use lib.Dec.{eqb}
use Rattle.std.proofs.Common.{rules, tests}
use Rattle.std.proofs.lemmas.Iterator.{YieldsList-from_slice}
use Rattle.std.proofs.lemmas.Iterator.Search.{any_from_yields_List}
use Rattle.token_list.proofs.Texts.{member_any}
use Rattle.token_list.proofs.text.is_one_of.Goals as goal

pub returns : goal.returns
returns c =
    let set = c.args.set.now in
    any_from_yields_List (λ x. eqb x c.args.b) _ _ c.any.result c.any.ensures.ran (YieldsList-from_slice set cc)
    (λ x b q k. search (rules, tests)) ∙ member_any c.args.b set
