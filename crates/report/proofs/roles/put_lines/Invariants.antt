use Rattle.std.specs.Prelude.{drop}
use Rattle.output.proofs.Writers.{Going}
use Rattle.report.specs.Roles.{role_lines}
use Rattle.report.proofs.roles.put_lines.Given as goal

abbrev pub invariant-loop-row : goal.invariant-loop-row
invariant-loop-row l = Going l.initial.w l.w (role_lines 0 l.roles) (role_lines l.row (drop l.row l.roles))
