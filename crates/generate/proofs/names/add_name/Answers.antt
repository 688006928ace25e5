use mathlib.Core.Bool.{true, false}
use Rattle.generate.specs.Contract.{added}
use Rattle.generate.proofs.Added.{parted_off}
use Rattle.generate.proofs.names.add_name.Goals as goal

pub returns-then-lifetime : goal.returns-then-lifetime
returns-then-lifetime c =
    rw c.if-lifetime.true (parted_off _ (added true c.args.name.now) c.part.ensures c.lifetime_str.ensures)

pub returns-else-lifetime : goal.returns-else-lifetime
returns-else-lifetime c =
    rw c.if-lifetime.false (parted_off _ (added false c.args.name.now) c.part.ensures c.ident_str.ensures)
