use mathlib.Core.Path.{sym, ap, ◌∙◌}
use native.Mathlib.Omega.{arith}
use Rattle.source.specs.Bytes.{opens}
use Rattle.source.specs.Stack.{bits_of}
use Rattle.source.proofs.Cells.{pushed, pushed_past}
use Rattle.source.proofs.brackets.push.Goals as goal

pub returns-then-cell-cells : goal.returns-then-cell-cells
returns-then-cell-cells c = λ os o h e q. let fits = ap opens q ∙ c.requires.d_value in
    pushed e (omega arith) fits (c.bits_of.ensures ∙ ap bits_of (sym q)) h

pub returns-else-cell-cells : goal.returns-else-cell-cells
returns-else-cell-cells c = λ os o h e q. pushed_past e (omega arith) h
