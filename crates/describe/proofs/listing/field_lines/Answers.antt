use mathlib.Core.Path.{ap, subst}
use Rattle.parse.specs.Contract as contract
use Rattle.output.proofs.Writers.{unwritten, writes_as}
use Rattle.describe.specs.Listing.{field_lines}
use Rattle.describe.proofs.listing.field_lines.Goals as goal

pub returns-in-Unit : goal.returns-in-Unit
returns-in-Unit c = λ f k.
    let same = subst (λ v. contract.FieldsOf c.args.s.now v f) c.in-Unit.is k in
    writes_as (ap field_lines same) unwritten

pub returns-in-Named : goal.returns-in-Named
returns-in-Named c = λ f k.
    let a = subst (λ v. contract.FieldsOf c.args.s.now v f) c.in-Named.is k in
    writes_as (ap field_lines a.1) (c.named_lines.ensures a.0 a.2)

pub returns-in-Tuple : goal.returns-in-Tuple
returns-in-Tuple c = λ f k.
    let a = subst (λ v. contract.FieldsOf c.args.s.now v f) c.in-Tuple.is k in
    writes_as (ap field_lines a.1) (c.tuple_lines.ensures a.0 a.2)
