use Rattle.output.proofs.Answers.{fits}
use Rattle.token_list.specs.Layout.{marked}
use Rattle.token_list.specs.Rows.{list_of}
use Rattle.writing.specs.Generics.{generics_rows}
use Rattle.generate.specs.Contract.{parameters_in}
use Rattle.generate.proofs.generics.fit_generics.Goals as goal

pub returns : goal.returns
returns c = λ g k.
    fits (list_of (marked c.args.s.now) (generics_rows (parameters_in c.args.form) g)) c.put_generics-needed.result
    (c.put_generics-needed.ensures g k).next c.if-out-needed.false (c.put_generics.ensures g k)
