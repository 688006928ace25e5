use native.Mathlib.Omega.{arith}
use borrow.Author.Tests.{le-ltb, ne_eqb}
use Prim.Native.Nat.{◌≤◌}
use Rattle.replay.specs.Window.{size}
use Rattle.replay.proofs.Windows.{first_unread}
use Rattle.replay.proofs.compare.Goals as goal

pub returns : goal.returns
returns c = let room : c.args.size ≤ size c.args.s.at = omega arith in
    rw (ne_eqb c.args.s.cases 0 c.if-s-eq0.false, le-ltb (size c.args.s.at) c.args.size room)
    (rw (
      c.advanced.ensures,
      c.counted.ensures,
      c.is_right-right.ensures,
      first_unread c.args.buf.now c.args.s.at c.args.size,
    ))
