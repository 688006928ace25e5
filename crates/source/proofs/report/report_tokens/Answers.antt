-- `report_tokens` meets its contract: the answer is printed, and no list is longer than 65,536 bytes.
use native.Mathlib.Omega.{arith}
use Rattle.source.proofs.Reports.{report_short}
use Rattle.source.proofs.report.report_tokens.Goals as goal

pub returns : goal.returns
returns c = let few = report_short c.args.s.now _ c.write_tokens-answer.ensures in
    record {
      printed = c.put_tokens.ensures.by_index _ _ c.write_tokens-answer.ensures;
      short = omega (arith, c.put_tokens.ensures.upper_bound, few);
    }
