use native.Mathlib.Omega.{arith}
use Rattle.std.proofs.lemmas.Result.{err_from_is_err_and}
use Rattle.describe.proofs.Answers.{item_faults, faults_refused, measured-short, measured-fits}
use Rattle.describe.proofs.listing.fit_listing.Goals as goal

pub returns-then-out-needed : goal.returns-then-out-needed
returns-then-out-needed c = record {
  written_as = λ p x k body.
      measured-short p x body (c.body_faults.ensures x.body k.body) c.args.out.now c.in_ok-body_faults.was
      (λ zs. c.put_listing-needed.ensures x zs k) (omega arith);
  faults_in = λ p x k body. item_faults p x body (c.body_faults.ensures x.body k.body);
}

pub returns-in_err-body_faults : goal.returns-in_err-body_faults
returns-in_err-body_faults c =
    let r = err_from_is_err_and c.from_residual.result c.from_residual.ensures.1 in
    rw (r.1, r.2)
    (record {
      written_as = λ p x k body.
          faults_refused p x body (c.body_faults.ensures x.body k.body) c.args.out.now _ c.in_err-body_faults.was;
      faults_in = λ p x k body. item_faults p x body (c.body_faults.ensures x.body k.body);
    })

pub returns : goal.returns
returns c = record {
  written_as = λ p x k body.
      measured-fits p x body (c.body_faults.ensures x.body k.body) c.args.out.now c.in_ok-body_faults.was
      (λ zs. c.put_listing-needed.ensures x zs k)
      (λ zs. c.put_listing.ensures x zs k) (omega arith);
  faults_in = λ p x k body. item_faults p x body (c.body_faults.ensures x.body k.body);
}
