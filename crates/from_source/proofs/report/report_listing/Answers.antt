-- `report_listing` meets its contract: the answer is printed, and no listing is longer than 176,145 bytes.
use native.Mathlib.Omega.{arith}
use Rattle.from_source.proofs.Reports.{reported, report_short}
use Rattle.from_source.proofs.report.report_listing.Goals as goal

pub returns : goal.returns
returns c = let few = report_short c.args.text.now _ c.write_listing-answer.ensures.source_written_as in
    reported c.args.text.now (c.put_listing.ensures.by_index _ _ c.write_listing-answer.ensures.source_written_as)
    (omega (arith, c.put_listing.ensures.upper_bound, few)) c.write_listing-answer.ensures.by_index
