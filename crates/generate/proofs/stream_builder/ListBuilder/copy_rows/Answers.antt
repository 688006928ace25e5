use Rattle.generate.proofs.Copying.{copying_within, copying_next}
use Rattle.generate.proofs.stream_builder.ListBuilder.copy_rows.Goals as goal

pub token_at-t-requires-clause-at_in_bounds : goal.token_at-t-requires-clause-at_in_bounds
token_at-t-requires-clause-at_in_bounds c = copying_within c.requires c.loop-row.invariant c.loop-row-test.true

pub loop-row-preserved : goal.loop-row-preserved
loop-row-preserved c =
    copying_next c.requires c.loop-row.invariant c.token_at-t.ensures c.loop-row-test.true c.sent_mark.ensures
    c.row.ensures
