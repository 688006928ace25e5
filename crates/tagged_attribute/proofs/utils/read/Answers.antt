use Rattle.tagged_attribute.proofs.Answers as answers
use Rattle.std.proofs.lemmas.Result.{err_from_is_err_and}
use mathlib.Core.Path.{◌∙◌}
use Rattle.tagged_attribute.proofs.utils.read.Goals as goal

pub returns-in_err-rows : goal.returns-in_err-rows
returns-in_err-rows c =
    let p = err_from_is_err_and c.from_residual.result c.from_residual.ensures.1 in
    let refused = answers.refuses c.args.prefix.now _ c.args.roles.now c.in_err-rows.ensures.answer in
    rw (p.1, p.2) (answers.marked_refused _ _ c.args.roles.now refused)

pub returns-then-roles-rows : goal.returns-then-roles-rows
returns-then-roles-rows c =
    answers.marked_refused _ _ c.args.roles.now (answers.short _ _ _ c.in_ok-rows.ensures.answer c.if-roles-rows.true)

pub returns-in_err-first : goal.returns-in_err-first
returns-in_err-first c =
    let p = err_from_is_err_and c.from_residual-in_err-first.result c.from_residual-in_err-first.ensures.1 in
    let fits = answers.fits c.args.prefix.now _ _ c.in_ok-rows.ensures.answer c.if-roles-rows.false in
    rw (p.1, p.2) (answers.marked_refused _ _ c.args.roles.now (fits ∙ c.in_err-first.ensures))

pub returns-in_default : goal.returns-in_default
returns-in_default c =
    let fits = answers.fits c.args.prefix.now _ _ c.in_ok-rows.ensures.answer c.if-roles-rows.false in
    answers.marked_none _ _ c.args.roles.now (fits ∙ rw c.in_default.is at c.in_ok-first.ensures)

pub returns-in_err-end : goal.returns-in_err-end
returns-in_err-end c =
    let p = err_from_is_err_and c.from_residual-in_err-end.result c.from_residual-in_err-end.ensures.1 in
    let found = rw c.in-Some.is at c.in_ok-first.ensures in
    rw (p.1, p.2)
    (answers.entries_refused _ _ _ c.in_ok-rows.ensures.answer c.if-roles-rows.false found c.in_err-end.ensures)

pub returns : goal.returns
returns c =
    let found = rw c.in-Some.is at c.in_ok-first.ensures in
    answers.entries_marked _ _ _ c.in_ok-rows.ensures.answer c.if-roles-rows.false found c.fill.ensures
    c.in_ok-end.ensures c.fill_rest.ensures
