use mathlib.Core.Path.{◌∙◌, ap, sym}
use Rattle.token_list.proofs.Texts.{drop_of_take}
use Rattle.doubles.specs.Key.{hash}
use Rattle.doubles.proofs.Keys.{name-key}
use Rattle.doubles.proofs.key.name_key.Goals as goal

pub returns : goal.returns
returns c =
    let part = drop_of_take c.bare-from.result c.args.end c.args.s.now in
    name-key c.bare-from.ensures (c.hash.ensures ∙ ap (hash 0) (sym part))
