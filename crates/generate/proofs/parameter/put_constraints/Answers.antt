use native.Mathlib.Omega.{arith}
use mathlib.Core.Logic.{inl, inr}
use Rattle.writing.specs.Rows.{sent}
use Rattle.generate.proofs.Builds.{then}
use Rattle.generate.proofs.Copying.{run-sent, run_length}
use Rattle.generate.proofs.Constrained.{always, some, none}
use Rattle.generate.proofs.parameter.put_constraints.Goals as goal

pub returns-then-always : goal.returns-then-always
returns-then-always c = λ ts rows.
    let done = then c.punct.ensures (run-sent c.requires ts rows c.extend.ensures) in
    let long = run_length c.requires ts rows in
    elim c.then-always.either [
      | inl h ↦ always (sent ts) h done
      | inr h ↦ some (sent ts) h.0 (omega (arith, h.1, long)) done
    ]

pub returns-else-at : goal.returns-else-at
returns-else-at c = λ ts rows.
    none (sent ts) c.if-always.false (omega (arith, c.if-at.false, run_length c.requires ts rows)) (omega arith)
