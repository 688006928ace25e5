use mathlib.Core.Logic.{inl, inr}
use mathlib.Core.List.{[]}
use mathlib.Core.Path.{◌≡◌}
use native.Mathlib.Omega.{arith}
use Rattle.std.specs.Slice.Iter.{iter_rest}
use Rattle.token_list.specs.Reader.{bytes_from}
use Rattle.output.proofs.Writers.{going, goes_on, gone}
use Rattle.explanation.specs.Explanation.{role_rows}
use Rattle.explanation.proofs.Texts.{roles_next, roles_end, roles_none}
use Rattle.explanation.proofs.rows.put_roles.Goals as goal

pub loop-n-init : goal.loop-n-init
loop-n-init c = going (grind arith)

pub loop-n-preserved : goal.loop-n-preserved
loop-n-preserved c = let next = c.in-Some.ensures.steps in
    goes_on c.loop-n.invariant (roles_next c.in-Some.n c.loop-n.n-iterator.count c.next.new.self.count next.0.1
    next.0.0 next.1 next.2) c.put_role_line.ensures

pub returns : goal.returns
returns c = let at = c.loop-n.n-iterator in
    let none : role_rows at.count (iter_rest at.iter.b) (bytes_from at.iter.a.reader.list.now at.iter.a.reader.at) ≡ [] =
    elim c.in-None.ensures.steps.0 [
      | inl u ↦ roles_end _ _ u.1.0
      | inr u ↦ roles_none _ _ _ u.1.0
    ] in
    gone c.loop-n.invariant none
