use Rattle.std.specs.Prelude.{Ok, Err}
use Rattle.token_list.specs.Layout.{first_row}
use Rattle.token_list.specs.Stream.{at}
use Rattle.parse.proofs.Items.{from_start}
use lib.ListN.{length}
use mathlib.Core.Path.{ap, subst⁻¹}
use Rattle.reading.specs.Place as place
use Rattle.parse.proofs.Inside.{meets_tells, meets_refusal}
use Rattle.output.specs.Answer.{fitted}
use Rattle.output.proofs.Answers.{written_as, written_refused}
use Rattle.describe.specs.Listing.{item_answer}
use Rattle.describe.specs.Contract.{ItemFaultsIn}
use Rattle.describe.proofs.Sightings.{few_names}
use Rattle.describe.proofs.listing.read_listing.Goals as goal

pub fit_listing-requires : goal.fit_listing-requires
fit_listing-requires c = let m = meets_tells (from_start (Ok c.in-Ok.d) c.start.ensures c.in-Ok.ensures) in
    record {
      item_of = (m.0, m.4.0, few_names (at c.args.s.now (first_row c.args.s.now)).here m.3 c.requires.s_bound);
      s_len_bound = c.requires.s_len_bound;
    }

pub returns-in-Err : goal.returns-in-Err
returns-in-Err c =
    let e = (meets_refusal (from_start (Err c.in-Err.r) c.start.ensures c.in-Err.ensures)).1 in
    record {
      written_as =
          written_refused (ap (λ t. fitted (length c.args.out.now) (item_answer (place.start c.args.s.now) t)) e);
      item_faults_in = subst⁻¹ (ItemFaultsIn c.args.s.now) e tt;
    }

pub returns-in-Ok : goal.returns-in-Ok
returns-in-Ok c =
    let m = meets_tells (from_start (Ok c.in-Ok.d) c.start.ensures c.in-Ok.ensures) in
    let p = place.start c.args.s.now in
    let body = m.4.1.body in record {
      written_as = written_as (ap (λ t. fitted (length c.args.out.now) (item_answer p t)) m.3)
          (c.fit_listing.ensures.written_as p m.0 m.4.0 body);
      item_faults_in = subst⁻¹ (ItemFaultsIn c.args.s.now) m.3 (c.fit_listing.ensures.faults_in p m.0 m.4.0 body);
    }
