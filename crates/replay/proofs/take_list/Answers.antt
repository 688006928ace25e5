use mathlib.Core.Path.{ap, ◌∙◌}
use native.Mathlib.Omega.{arith}
use borrow.Author.Tests.{le-ltb}
use Prim.Native.Nat.{◌≤◌}
use lib.ListN.{length}
use lib.Seq.{sets}
use Rattle.replay.specs.Window.{size}
use Rattle.replay.proofs.Windows.{first_unread}
use Rattle.replay.proofs.take_list.Goals as goal

pub returns-clause-list_after : goal.returns-clause-list_after
returns-clause-list_after c = let room : c.args.size ≤ size c.args.s.at = omega arith in
    rw (le-ltb (length c.args.list.now) c.args.size c.if-list-size.false, le-ltb (size c.args.s.at) c.args.size room)
    (c.copy_bytes.ensures ∙ ap (sets c.args.list.now 0) (first_unread c.args.buf.now c.args.s.at c.args.size))
