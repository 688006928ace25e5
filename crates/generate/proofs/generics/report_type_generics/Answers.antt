use Rattle.generate.proofs.Answers.{reported_type}
use Rattle.generate.proofs.generics.report_type_generics.Goals as goal

pub returns : goal.returns
returns c =
    reported_type c.args.list.now c.args.out.now _ c.type_generics-answer.ensures c.put_answer.ensures.upper_bound
    (c.put_answer.ensures.by_index _ _ c.type_generics-answer.ensures.answered)
