use Rattle.generate.proofs.Answers.{angled}
use Rattle.generate.proofs.generics.put_angled.Goals as goal

pub returns : goal.returns
returns c = λ ps inside.
    angled c.args.form.names c.args.form.lifetimes.now c.args.form.types.now ps c.is_empty.ensures c.punct.ensures
    c.add_names.ensures (c.add_parameters.ensures ps inside) c.punct-2.ensures
