use native.Mathlib.Omega.{arith}
use mathlib.Core.Path.{sym, subst}
use Rattle.parse.specs.Contract.{bound_of_lem}
use Rattle.generate.specs.Contract.{RunIn, Appended, const_rows}
use Rattle.generate.specs.declared.parameter.ConstraintsAt.{ConstraintsAt}
use Rattle.generate.proofs.Builds.{unchanged}
use Rattle.generate.proofs.Parameters.{by_parts}
use Rattle.generate.proofs.parameter.append_to_result_with_constraints.Goals.{then-constant, else-constant}
use Rattle.generate.proofs.parameter.append_to_result_with_constraints.Goals as goal

pub returns : goal.returns
returns c = λ a i.
    let word : Appended c.args.b.now c.if-constant.b (const_rows c.is_const-constant.result) =
    elim c.if-constant.branch [
      | then-constant w ↦ rw (w.if-constant.true, w.b-is) w.ident_str.ensures
      | else-constant w ↦ rw (w.if-constant.false, w.b-is) (unchanged (omega arith))
    ] in
    let run = subst (λ (x : ConstraintsAt). RunIn c.args.s.now x (bound_of_lem a)) (sym c.constraints.ensures) i.run in
    by_parts i c.is_const-constant.ensures word (c.append_name.ensures a i.name)
    (c.put_constraints.ensures (bound_of_lem a) run.rows)
