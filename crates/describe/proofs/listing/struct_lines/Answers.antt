use Rattle.token_list.specs.Byte.{BRACE}
use Rattle.output.proofs.Writers.{writes_as}
use borrow.Author.Tests.{eq-eqb, ne_eqb}
use Rattle.describe.specs.Contract.{fields_in}
use native.Mathlib.Omega.{arith}
use mathlib.Core.Path.{ap, subst}
use Rattle.describe.specs.Listing.{field_lines}
use Rattle.describe.proofs.listing.struct_lines.Goals as goal

pub returns-then-delimiter-eq123 : goal.returns-then-delimiter-eq123
returns-then-delimiter-eq123 c = λ f k.
    let a = subst (λ z. fields_in z c.args.s.now c.args.c f) (eq-eqb c.args.delimiter BRACE (omega arith)) k in
    writes_as (ap field_lines a.1) (c.named_lines.ensures a.0 a.2)

pub returns-else-delimiter-eq123 : goal.returns-else-delimiter-eq123
returns-else-delimiter-eq123 c = λ f k.
    let a = subst (λ z. fields_in z c.args.s.now c.args.c f) (ne_eqb c.args.delimiter BRACE (λ e. omega arith)) k in
    writes_as (ap field_lines a.1) (c.tuple_lines.ensures a.0 a.2)
