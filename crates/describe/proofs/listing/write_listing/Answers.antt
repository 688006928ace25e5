use Rattle.parse.proofs.Items.{first_in}
use Rattle.token_list.specs.Contract.{checked}
use native.Mathlib.Omega.{arith}
use Rattle.token_list.proofs.Bounds.{bounds}
use Rattle.token_list.proofs.Passed.{never, passed_list}
use lib.ListN.{length}
use mathlib.Core.Path.{sym, ◌∙◌, ap}
use Rattle.std.proofs.lemmas.Result.{err_from_is_err_and}
use Rattle.output.proofs.Answers.{written_as, written_refused}
use Rattle.describe.proofs.Answers.{listing-checked, listing_read, listing-refusal}
use Rattle.describe.proofs.listing.write_listing.Goals as goal

pub read_listing-requires : goal.read_listing-requires
read_listing-requires c = let passed = sym c.check.ensures.answer ∙ ap checked c.in_ok-check.was in
    let b = bounds _ passed in
    record {
      in_list = first_in _ _ passed;
      s_len_bound = b.bytes;
      s_bound = omega (arith, (passed_list _ _ passed).size, b.rows);
    }

pub returns-in_err-check : goal.returns-in_err-check
returns-in_err-check c =
    let refused = sym c.check.ensures.answer ∙ ap checked c.in_err-check.was in
    let p = err_from_is_err_and c.from_residual.result c.from_residual.ensures.1 in
    rw (p.1, p.2)
    (record {
      written_as = written_refused (listing-checked c.args.list.now (length c.args.out.now) refused);
      by_index =
          listing-refusal c.args.list.now (length c.args.out.now) (λ rows p. absurd (never _ _ rows (sym refused ∙ p)));
    })

pub returns : goal.returns
returns c = record {
  written_as = written_as
      (listing_read c.args.list.now (length c.args.out.now)
      (sym c.check.ensures.answer ∙ ap checked c.in_ok-check.was))
      c.read_listing.ensures.written_as;
  by_index = listing-refusal c.args.list.now (length c.args.out.now)
      (λ rows p. c.read_listing.ensures.item_faults_in);
}
