use native.Mathlib.Omega.{arith}
use Rattle.output.proofs.Texts.{printed}
use Rattle.output.proofs.Writers.{begun, then}
use Rattle.explanation.proofs.Lengths.{refused_few}
use Rattle.explanation.proofs.explain.put_refused.Goals as goal

pub returns : goal.returns
returns c = let text = then c.refusal.ensures.writes
    (then c.put_meaning.ensures (then c.byte.ensures c.put_near.ensures)) in
    let few = refused_few c.args.list.now c.args.refusal.number c.args.refusal.place
    c.refusal.ensures.upper_bound (omega arith) in
    let all = printed (begun c.new-w.ensures.put text) (omega (arith, few)) in
    record {
      printed = record { counted = all.counted; bytes = grind arith };
      upper_bound = omega (arith, all.counted, few);
    }
