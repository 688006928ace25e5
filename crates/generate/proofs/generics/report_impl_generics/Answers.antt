use Rattle.generate.proofs.Answers.{reported_additional}
use Rattle.generate.proofs.generics.report_impl_generics.Goals as goal

pub returns : goal.returns
returns c =
    reported_additional c.args.lifetimes.now c.args.types.now c.args.list.now c.args.out.now _
    c.impl_generics_with_additional-answer.ensures c.put_answer.ensures.upper_bound
    (c.put_answer.ensures.by_index _ _ c.impl_generics_with_additional-answer.ensures.answered)
