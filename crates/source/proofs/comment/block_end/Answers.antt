-- `block_end` meets its contract: of the comment the bytes before i are passed, and so many others are open there.
use mathlib.Core.Path.{◌≡◌, refl, sym, ◌∙◌, ap}
use Prim.Native.Nat.{◌+◌, ◌-◌}
use native.Mathlib.Omega.{arith}
use lib.ListN.{drop_of_length-le}
use Rattle.source.specs.Bytes.{SLASH, STAR}
use Rattle.source.specs.Comment.{block}
use Rattle.source.specs.Contract.{none}
use Rattle.source.proofs.Passed.{passed_start, passed_on, passed_ends, ends_takes}
use Rattle.source.proofs.Comments.{pair_stands, block_ends, block-closes, block-opens, block_next, block_plain}
use Rattle.source.proofs.comment.block_end.Goals as goal

pub loop-i-init : goal.loop-i-init
loop-i-init c = (omega arith, passed_start)

pub loop-i-preserved-then-i-e : goal.loop-i-preserved-then-i-e
loop-i-preserved-then-i-e c =
    let n : c.loop-i.i + (c.plain_end-e.result - c.loop-i.i) ≡ c.plain_end-e.result = omega arith in
    let b = block_plain c.loop-i.depth c.args.s.now c.plain_end-e.result c.plain_end-e.ensures.within
    (c.plain_end-e.result - c.loop-i.i) c.loop-i.i n (c.plain_end-e.ensures.plain c.if-i-e.true) in
    (omega arith, passed_on (c.plain_end-e.result - c.loop-i.i) (sym n) b c.loop-i.invariant.1)

pub overflow_add-i : goal.overflow_add-i
overflow_add-i c = let q = sym c.is_pair.ensures ∙ c.if-is_pair.true in
    let h = pair_stands c.args.s.now c.loop-i.i STAR SLASH q (omega arith) in
    omega arith

pub returns-then-depth-eq0 : goal.returns-then-depth-eq0
returns-then-depth-eq0 c = let q = sym c.is_pair.ensures ∙ c.if-is_pair.true in
    let h = pair_stands c.args.s.now c.loop-i.i STAR SLASH q (omega arith) in
    let e = block_ends c.loop-i.depth c.args.s.now c.loop-i.i (omega arith) q c.if-depth-eq0.true in
    passed_ends (ends_takes 2 e refl (omega arith) (omega arith)) c.loop-i.invariant.1

pub loop-i-preserved-then-is_pair : goal.loop-i-preserved-then-is_pair
loop-i-preserved-then-is_pair c = let q = sym c.is_pair.ensures ∙ c.if-is_pair.true in
    let e = block-closes c.loop-i.depth c.args.s.now c.loop-i.i (omega arith) q c.if-depth-eq0.false in
    (omega arith, passed_on 2 refl e c.loop-i.invariant.1)

pub overflow_add-i-then-is_pair-2 : goal.overflow_add-i-then-is_pair-2
overflow_add-i-then-is_pair-2 c = let q = sym c.is_pair-in-loop-i.ensures ∙ c.if-is_pair-2.true in
    let h = pair_stands c.args.s.now c.loop-i.i SLASH STAR q (omega arith) in
    omega arith

pub loop-i-preserved-then-is_pair-2 : goal.loop-i-preserved-then-is_pair-2
loop-i-preserved-then-is_pair-2 c = let p = sym c.is_pair.ensures ∙ c.if-is_pair.false in
    let q = sym c.is_pair-in-loop-i.ensures ∙ c.if-is_pair-2.true in
    let e = block-opens c.loop-i.depth c.args.s.now c.loop-i.i (omega arith) p q in
    (omega arith, passed_on 2 refl e c.loop-i.invariant.1)

pub loop-i-preserved : goal.loop-i-preserved
loop-i-preserved c = let p = sym c.is_pair.ensures ∙ c.if-is_pair.false in
    let q = sym c.is_pair-in-loop-i.ensures ∙ c.if-is_pair-2.false in
    let e = block_next c.loop-i.depth c.args.s.now c.loop-i.i (omega arith) p q in
    (omega arith, passed_on 1 refl e c.loop-i.invariant.1)

pub returns : goal.returns
returns c = let e = drop_of_length-le c.args.s.now {i = c.loop-i.i} (omega arith) in
    passed_ends (none (ap (block c.loop-i.depth 0) e)) c.loop-i.invariant.1
