use Rattle.output.proofs.Writers.{then}
use lib.Seq.{take-suc}
use lib.ListN.{length}
use Prim.Native.Nat.{◌<◌}
use native.Mathlib.Omega.{arith}
use native.Mathlib.Numerals.{add-one}
use Rattle.output.proofs.writer.Writer.bytes.Goals as goal

pub loop-b-preserved : goal.loop-b-preserved
loop-b-preserved c = let more : c.loop-b.b-index < length c.args.text.now = omega arith in
    rw (add-one, take-suc c.args.text.now c.loop-b.b-index 0) (then c.loop-b.invariant c.byte.ensures)
