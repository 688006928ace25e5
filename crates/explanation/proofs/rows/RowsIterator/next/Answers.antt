use mathlib.Core.Path.{ap, ◌∙◌, sym}
use mathlib.Core.List.{List, ◌∷◌}
use Prim.Native.Nat.{ℕ, ◌-◌}
use native.Mathlib.Omega.{arith}
use lib.ListN.{take, drop}
use Rattle.token_list.specs.Reader.{bytes_from}
use Rattle.explanation.proofs.Texts.{first_shown}
use Rattle.explanation.proofs.rows.RowsIterator.next.Goals as goal

pub slice_bounds-row-end : goal.slice_bounds-row-end
slice_bounds-row-end c = let first = first_shown c.in_ok-start.ensures in omega (arith, first.order, first.within)

pub returns-clause-steps : goal.returns-clause-steps
returns-clause-steps c =
    let s = c.args.self.now.reader.list.now in
    let start = c.in_ok-start.start in
    let row = take (c.in_ok-start.end - start) (drop start s) in
    let went = c.next-self.ensures in
    let rest = ap (λ l. bytes_from l.now c.next-self.result.at) went.0 ∙ went.1.rest in
    (first_shown c.in_ok-start.ensures).here ∙ ap (λ (rows : List (List ℕ)). row ∷ rows) (sym rest)
