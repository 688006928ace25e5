use Rattle.token_list.proofs.Bounds.{check-refusal}
use Rattle.report.proofs.check.report_check.Goals as goal

pub returns : goal.returns
returns c =
    record {
      printed = rw (← c.check.ensures.answer) c.put_answer.ensures.printed;
      upper_bound = c.put_answer.ensures.upper_bound;
      by_index = check-refusal _;
    }
