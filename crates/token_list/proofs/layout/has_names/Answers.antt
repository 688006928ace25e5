use mathlib.Core.Path.{sym, ◌∙◌, ap}
use mathlib.Core.Bool.{Bool, true, false}
use Prim.Native.Nat.{ℕ}
use lib.ListN.{take}
use Rattle.token_list.specs.Layout.{names, first_row}
use Rattle.token_list.specs.Text.{same}
use Rattle.token_list.proofs.layout.has_names.Goals as goal

pub returns-then-is_marked : goal.returns-then-is_marked
returns-then-is_marked c = c.text_is.ensures
    ∙ ap (λ (e : ℕ). same (take e c.args.s.now) (names true)) c.first_row-end.ensures
    ∙ ap (λ (m : Bool). same (take (first_row c.args.s.now) c.args.s.now) (names m)) (sym c.if-is_marked.true
    ∙ c.is_marked.ensures)

pub returns-else-is_marked : goal.returns-else-is_marked
returns-else-is_marked c = c.text_is-else-is_marked.ensures
    ∙ ap (λ (e : ℕ). same (take e c.args.s.now) (names false)) c.first_row-end.ensures
    ∙ ap (λ (m : Bool). same (take (first_row c.args.s.now) c.args.s.now) (names m)) (sym c.if-is_marked.false
    ∙ c.is_marked.ensures)
