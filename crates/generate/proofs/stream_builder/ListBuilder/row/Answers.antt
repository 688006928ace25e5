use native.Mathlib.Omega.{arith}
use mathlib.Core.Path.{refl}
use Rattle.output.proofs.Writers.{left_at}
use Rattle.generate.proofs.stream_builder.ListBuilder.row.Goals as goal

pub returns : goal.returns
returns c = record {
  same_output = grind arith;
  marked = refl;
  rows = c.counted-self.ensures;
  put = left_at (grind arith) c.put_row.ensures.put;
}
