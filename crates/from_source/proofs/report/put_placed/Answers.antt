-- `put_placed` meets its contract: the parts of the text one after the other.
use mathlib.Core.Path.{ap, sym}
use native.Mathlib.Omega.{arith}
use Rattle.output.proofs.Texts.{printed}
use Rattle.output.proofs.Writers.{begun, then, writes_as}
use Rattle.source.specs.Report.{position_text}
use Rattle.from_source.specs.Report.{placed_text}
use Rattle.from_source.proofs.Reports.{placed_few}
use Rattle.from_source.proofs.report.put_placed.Goals as goal

pub returns : goal.returns
unfolding placed_text
returns c =
    let few = placed_few c.args.s.now c.args.refusal.number c.args.refusal.place (omega (arith, c.type_inv))
    (omega (arith, c.type_inv))
    (omega (arith, c.type_inv)) in
    let stands = writes_as (sym (ap (position_text c.args.s.now) c.place_offset.ensures)) c.put_position.ensures in
    let text = then c.bytes.ensures
    (then c.number.ensures
    (then c.byte.ensures
    (then c.place.ensures (then c.byte-2.ensures (then stands c.byte-3.ensures))))) in
    let whole = printed (begun c.new-w.ensures.put text) (omega (arith, few)) in
    record {
      printed = record { counted = whole.counted; bytes = grind arith };
      upper_bound = omega (arith, whole.counted, few);
    }
