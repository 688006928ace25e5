use native.Mathlib.Omega.{arith}
use Rattle.describe.proofs.Length.{reported, answer_length}
use Rattle.describe.proofs.listing.report_listing.Goals as goal

pub returns : goal.returns
returns c =
    reported c.args.list.now (c.put_answer.ensures.by_index _ _ c.write_listing-answer.ensures.written_as)
    (omega (
      arith,
      c.put_answer.ensures.upper_bound,
      answer_length c.args.list.now _ c.write_listing-answer.ensures.written_as,
    )) c.write_listing-answer.ensures.by_index
