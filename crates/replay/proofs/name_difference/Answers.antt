use mathlib.Core.Path.{ap, sym}
use native.Mathlib.Omega.{arith}
use lib.ListN.{length}
use lib.Seq.{length-take-le}
use Rattle.output.proofs.Texts.{decimal_few}
use Rattle.replay.proofs.Headers.{topic_few}
use Rattle.replay.proofs.name_difference.Goals as goal

pub slice_bounds-out-end : goal.slice_bounds-out-end
slice_bounds-out-end c = omega (
  arith,
  decimal_few c.args.case (omega arith),
  topic_few c.args.topic,
  ap length c.topic_name.ensures,
)

pub slice_bounds-write_all-end : goal.slice_bounds-write_all-end
slice_bounds-write_all-end c = sym (length-take-le c.byte.new.self.at _ (omega (
  arith,
  decimal_few c.args.case (omega arith),
  topic_few c.args.topic,
  ap length c.topic_name.ensures,
)))
