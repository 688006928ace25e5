use native.Mathlib.Omega.{arith}
use Rattle.source.proofs.Cells.{popped, popped_past}
use Rattle.source.proofs.brackets.pop.Goals as goal

pub returns-then-cells-cell : goal.returns-then-cells-cell
returns-then-cells-cell c = λ o os h e. popped_past e (omega arith) h

pub returns : goal.returns
returns c = λ o os h e. popped e (omega arith) c.delimiter_of.ensures h
