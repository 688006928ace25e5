use Rattle.output.proofs.Texts.{printed}
use Rattle.output.proofs.Writers.{begun, then}
use Rattle.report.proofs.Lines.{rows_few}
use native.Mathlib.Omega.{arith}
use Rattle.report.proofs.check.put_answer.Goals as goal

pub returns-in-Ok : goal.returns-in-Ok
returns-in-Ok c = let few = rows_few c.in-Ok.rows (omega arith) in
    let text = begun c.new-w.ensures.put (then c.bytes.ensures (then c.number.ensures c.byte.ensures)) in
    let p = printed text (omega (arith, few)) in
    record {
      printed = rw c.in-Ok.is (record { counted = p.counted; bytes = grind arith });
      upper_bound = omega
          (arith, p.counted, few);
    }

pub returns-in-Err : goal.returns-in-Err
returns-in-Err c =
    record {
      printed = rw c.in-Err.is c.put_refusal.ensures.printed;
      upper_bound = c.put_refusal.ensures.upper_bound;
    }
