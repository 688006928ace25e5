use mathlib.Core.Path.{refl, ◌∙◌}
use native.Mathlib.Omega.{arith}
use borrow.Author.Tests.{lt-leb}
use borrow.Rule.Slice.PartMut.{take_put, same_len_mid, mid_len}
use Prim.Native.Nat.{◌-◌, ◌≤◌}
use lib.ListN.{length}
use Rattle.replay.specs.Window.{size}
use Rattle.replay.proofs.Windows.{moved_there}
use Rattle.replay.proofs.window.ready.Goals as goal

pub returns : goal.returns
returns c = let n = size c.args.at in
    let buf = c.copy_within.new.self in
    let few : n ≤ length buf = omega (arith, c.copy_within.ensures.len, c.requires.order, c.requires.room) in
    let rest = mid_len n (length buf) buf (omega arith) in
    let as_long = same_len_mid n (length buf - n) buf c.read_full-more.new.buf c.read_full-more.auto.buf in
    rw (lt-leb c.args.need n c.if-need-unread.false)
    (record {
      start = refl;
      kept = take_put n (length buf - n) buf c.read_full-more.new.buf few
          ∙ moved_there c.args.buf.now c.args.at c.requires c.copy_within.ensures.after;
      order = omega arith;
      room = omega (arith, c.read_full-more.ensures.0, c.read_full-more.auto.buf, few, rest, as_long);
    })
