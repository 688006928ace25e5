use Rattle.generate.proofs.Builds.{then}
use Rattle.generate.proofs.stream_builder.ListBuilder.lifetime_str.Goals as goal

pub returns : goal.returns
returns c = then c.punct.ensures c.ident_str.ensures
