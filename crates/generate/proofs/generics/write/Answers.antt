use mathlib.Core.Path.{sym, ◌∙◌}
use lib.ListN.{length}
use Rattle.std.proofs.lemmas.Result.{err_from_is_err_and}
use Rattle.output.proofs.Answers.{written_as, written_refused}
use Rattle.parse.proofs.Items.{start_in}
use Rattle.parse.proofs.Inside.{meets_tells, meets_refusal}
use Rattle.writing.proofs.Refusals.{write_checked}
use Rattle.generate.specs.Contract.{writer_in}
use Rattle.generate.proofs.Answers.{read_answer, right_answer, wrong_answer}
use Rattle.generate.proofs.generics.write.Goals as goal

pub returns-in_err-check : goal.returns-in_err-check
returns-in_err-check c =
    let p = err_from_is_err_and c.from_residual.result c.from_residual.ensures.1 in
    rw (p.1, p.2) (written_refused
    (write_checked (writer_in c.args.form) c.args.list.now (length c.args.out.now) (sym c.in_err-check.ensures.answer)))

pub item-requires : goal.item-requires
item-requires c = start_in c.start.ensures (sym c.in_ok-check.ensures.answer)

pub returns-in_err-declared : goal.returns-in_err-declared
returns-in_err-declared c =
    let p = err_from_is_err_and c.from_residual-in_err-declared.result c.from_residual-in_err-declared.ensures.1 in
    rw (p.1, p.2) (written_refused
    (read_answer (writer_in c.args.form) _ (length c.args.out.now) c.in_ok-check.ensures.answer c.start.ensures
    (meets_refusal c.in_err-declared.ensures).1))

pub returns-then-not-right_texts : goal.returns-then-not-right_texts
returns-then-not-right_texts c =
    let wrong = sym c.right_texts.ensures ∙ c.if-not-right_texts.true in
    written_refused
    (wrong_answer (writer_in c.args.form) _ (length c.args.out.now) c.in_ok-check.ensures.answer c.start.ensures
    (meets_tells c.in_ok-declared.ensures).3 wrong)

pub fit_generics-requires-clause-in_list : goal.fit_generics-requires-clause-in_list
fit_generics-requires-clause-in_list c = (meets_tells c.in_ok-declared.ensures).4.0.generics.in_list

pub returns : goal.returns
returns c =
    let t = meets_tells c.in_ok-declared.ensures in
    let right = sym c.right_texts.ensures ∙ c.if-not-right_texts.false in
    written_as
    (right_answer (writer_in c.args.form) _ (length c.args.out.now) c.in_ok-check.ensures.answer c.start.ensures t.3
    right)
    (c.fit_generics.ensures t.0.generics t.4.0.generics)
