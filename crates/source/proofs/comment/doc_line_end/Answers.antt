use mathlib.Core.Path.{sym, ◌∙◌, ap}
use mathlib.Core.Bool.{not}
use borrow.Author.Tests.{not-true}
use native.Mathlib.Omega.{arith}
use Rattle.source.specs.Contract.{ends, none}
use Rattle.source.proofs.Comments.{doc_line_to, doc_line-none}
use Rattle.source.proofs.comment.doc_line_end.Goals as goal

pub returns : goal.returns
returns c = let q = sym c.line_ends.ensures ∙ c.if-not-line_ends.false in
    ends (record {
      taken = doc_line_to c.args.s.now c.args.i c.run_end-end.result c.run_end-end.ensures q;
      forth = omega (arith, c.run_end-end.ensures.told);
      within = c.run_end-end.ensures.within (omega arith);
    })

pub returns-then-not-line_ends : goal.returns-then-not-line_ends
returns-then-not-line_ends c = let q = sym c.line_ends.ensures ∙ not-true _ (ap not c.if-not-line_ends.true) in
    none (doc_line-none c.args.s.now c.args.i c.run_end-end.result c.run_end-end.ensures q)
