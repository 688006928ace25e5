use Rattle.output.proofs.Texts.{printed}
use Rattle.output.proofs.Writers.{begun}
use native.Mathlib.Omega.{arith}
use Rattle.output.proofs.put.put_refusal.Goals as goal

pub returns : goal.returns
returns c = let few = c.refusal.ensures.upper_bound in
    let p = printed (begun c.new-w.ensures.put c.refusal.ensures.writes) (omega (arith, few)) in
    record {
      printed = record { counted = p.counted; bytes = grind arith };
      upper_bound = omega (
        arith,
        p.counted,
        few,
      );
    }
