use mathlib.Core.Path.{ap, subst}
use Rattle.std.specs.Prelude.{Ok, Err}
use Rattle.std.proofs.lemmas.Result.{err_from_is_err_and}
use Rattle.reading.specs.Took.{Point}
use Rattle.reading.specs.Place.{start, inside, variant_at}
use Rattle.describe.specs.Contract.{ValueAs}
use Rattle.parse.proofs.Inside.{meets_tells, meets_refusal}
use Rattle.describe.proofs.Answers.{placed_as, placed_refused}
use Rattle.parse.proofs.Items.{from_start}
use Rattle.describe.specs.Value.{item_answer, body_value}
use Rattle.describe.proofs.value.read_value.Goals as goal

pub value-v-requires : goal.value-v-requires
value-v-requires c =
    (meets_tells (from_start (Ok c.in_ok-d.d) c.start.ensures c.in_ok-d.ensures)).4.0.body.in_list

pub put_value-requires : goal.put_value-requires
put_value-requires c =
    let m = meets_tells (from_start (Ok c.in_ok-d.d) c.start.ensures c.in_ok-d.ensures) in
    record { value_of = (_, (c.value-v.ensures _ m.4.0.body).value); s_len_bound = c.requires.s_len_bound }

pub returns-in_err-d : goal.returns-in_err-d
returns-in_err-d c =
    let e = (meets_refusal (from_start (Err c.in_err-d.field-0.0) c.start.ensures c.in_err-d.ensures)).1 in
    let p = err_from_is_err_and c.from_residual.result c.from_residual.ensures.1 in
    rw (p.1, p.2) (placed_refused _ (ap (item_answer (start c.args.s.now) c.args.position) e))

pub returns : goal.returns
returns c =
    let m = meets_tells (from_start (Ok c.in_ok-d.d) c.start.ensures c.in_ok-d.ensures) in
    let there = ap (λ (x : Point). variant_at c.args.position (inside x)) m.4.1.body.here in
    let v = subst (λ (x : Point). ValueAs c.args.s.now x c.value-v.result (body_value c.args.position m.0.body))
    there (c.value-v.ensures _ m.4.0.body) in
    placed_as (ap (item_answer (start c.args.s.now) c.args.position) m.3)
    (c.put_value.ensures _ _ v c.requires.in_bounds)
