use Rattle.generate.proofs.Builds.{of_part}
use mathlib.Core.List.{[], ◌∷◌}
use Rattle.token_list.specs.Rows.{ident}
use Rattle.generate.proofs.stream_builder.ListBuilder.ident.Goals as goal

pub returns : goal.returns
returns c = of_part (λ t. ident t ∷ []) c.args.t.start c.args.t.end c.args.s.now c.ident_str.ensures
