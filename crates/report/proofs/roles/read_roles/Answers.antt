use mathlib.Core.Path.{refl}
use Rattle.report.proofs.Lines.{rows_read}
use Rattle.report.proofs.roles.read_roles.Goals as goal

pub returns-clause-read_as : goal.returns-clause-read_as
returns-clause-read_as c = rows_read c.args.list.now c.args.roles.now c.in_ok-new.ensures.answered refl
    c.count_assigned.result c.count_assigned.ensures
