use native.Mathlib.Omega.{arith}
use Rattle.output.proofs.Texts.{printed}
use Rattle.output.proofs.Writers.{begun, then}
use Rattle.source.specs.Report.{fault_text}
use Rattle.source.proofs.Reports.{fault_few}
use Rattle.source.proofs.report.put_fault.Goals as goal

pub returns : goal.returns
unfolding fault_text
returns c = let few = fault_few c.args.s.now c.args.offset (omega (arith, c.type_inv)) (omega
    (arith, c.type_inv)) in
    let text = then c.bytes.ensures (then c.number.ensures (then c.byte.ensures
    (then c.put_position.ensures c.byte-2.ensures))) in
    let whole = printed (begun c.new-w.ensures.put text) (omega (arith, few)) in
    record {
      printed = record { counted = whole.counted; bytes = grind arith };
      upper_bound = omega (arith, whole.counted, few);
    }
