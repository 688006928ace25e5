use lib.ListN.{take}
use Rattle.std.specs.Slice.Iter.{iter_rest}
use Rattle.output.proofs.Writers.{Going}
use Rattle.explanation.specs.Row.{shown}
use Rattle.explanation.proofs.row.put_row.Given as goal

abbrev pub invariant-loop-b : goal.invariant-loop-b
invariant-loop-b l = Going l.initial.w l.w (shown (take l.most l.row))
    (shown (take l.b-iterator.n (iter_rest l.b-iterator.iter)))
