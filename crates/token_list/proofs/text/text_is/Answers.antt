use mathlib.Core.Path.{◌∙◌, ap}
use mathlib.Core.List.{List}
use Prim.Native.Nat.{ℕ}
use Rattle.token_list.specs.Text.{same}
use Rattle.token_list.proofs.Texts.{slice_cut}
use Rattle.token_list.proofs.text.text_is.Goals as goal

pub returns : goal.returns
returns c = let part = slice_cut c.args.s.now c.args.start c.args.end _ _ c.min-to.ensures c.min-from.ensures in
    c.compare.ensures.same ∙ ap (λ (t : List ℕ). same t c.args.name.now) part
