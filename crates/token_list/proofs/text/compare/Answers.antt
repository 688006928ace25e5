use native.Mathlib.Omega.{arith}
use mathlib.Core.Path.{sym, ◌∙◌}
use Rattle.token_list.proofs.Pairs.{compared_lengths, equal_few, compared_unequal, compared_equal}
use Rattle.token_list.proofs.text.compare.Goals as goal

pub returns-then-a-b : goal.returns-then-a-b
returns-then-a-b c = compared_lengths c.args.a.now c.args.b.now c.if-a-b.true

pub overflow_add-result : goal.overflow_add-result
overflow_add-result c =
    let few = equal_few c.args.a.now c.args.b.now c.if-a-b.false c.in-Some.equal
    (sym c.in-Some.is ∙ c.equal_pairs.ensures) in
    omega (arith, few, c.type_inv)

pub returns-in-Some : goal.returns-in-Some
returns-in-Some c =
    compared_unequal c.args.a.now c.args.b.now c.if-a-b.false c.in-Some.equal (sym c.in-Some.is ∙ c.equal_pairs.ensures)

pub returns-in-None : goal.returns-in-None
returns-in-None c = compared_equal c.args.a.now c.args.b.now c.if-a-b.false (sym c.in-None.is ∙ c.equal_pairs.ensures)
