use Rattle.generate.proofs.Builds.{of_part}
use Rattle.token_list.specs.Rows.{lifetime_rows}
use Rattle.generate.proofs.stream_builder.ListBuilder.lifetime.Goals as goal

pub returns : goal.returns
returns c = of_part lifetime_rows c.args.t.start c.args.t.end c.args.s.now c.lifetime_str.ensures
