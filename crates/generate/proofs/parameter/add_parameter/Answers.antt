use Rattle.generate.specs.Contract.{goes_out}
use Rattle.generate.proofs.Added.{parted_off}
use Rattle.generate.proofs.Parameters.{as_name, as_it_stands}
use Rattle.generate.proofs.parameter.add_parameter.Goals as goal

pub returns-then-names : goal.returns-then-names
returns-then-names c = λ a i.
    parted_off _ (goes_out c.args.names a) c.part.ensures (as_name a c.if-names.true (c.append_name.ensures a i.name))

pub returns-else-names : goal.returns-else-names
returns-else-names c = λ a i.
    parted_off _ (goes_out c.args.names a) c.part.ensures
    (as_it_stands a c.if-names.false (c.append_to_result_with_constraints.ensures a i))
