use mathlib.Core.Path.{ap, sym}
use native.Mathlib.Omega.{arith}
use Prim.Native.Nat.{ℕ}
use Rattle.token_list.specs.Layout.{first_row}
use Rattle.token_list.specs.Reader.{bytes_from}
use Rattle.output.proofs.Writers.{going, goes_on, left_as, gone, writes_as}
use Rattle.explanation.specs.Explanation.{near_rows}
use Rattle.explanation.proofs.Texts.{near_next, near_passed}
use Rattle.explanation.proofs.rows.put_near.Goals as goal

pub loop-n-init : goal.loop-n-init
loop-n-init c = going (grind arith)

pub loop-n-preserved-then-is_near : goal.loop-n-preserved-then-is_near
loop-n-preserved-then-is_near c = let next = c.in-Some.ensures.steps in
    goes_on c.loop-n.invariant (near_next _ _ c.in-Some.n c.loop-n.n-iterator.count c.next.new.self.count
    c.if-is_near.ensures next.0 next.1 next.2) c.put_near_line.ensures

pub loop-n-preserved : goal.loop-n-preserved
loop-n-preserved c = let next = c.in-Some.ensures.steps in
    left_as c.loop-n.invariant (near_passed _ _ c.in-Some.n c.loop-n.n-iterator.count c.next.new.self.count
    c.if-is_near.ensures next.0 next.1 next.2)

pub returns : goal.returns
returns c = let all = bytes_from c.args.list.now (first_row c.args.list.now) in
    let none = ap (near_rows c.args.place c.count_rows-count.result c.loop-n.n-iterator.count)
    c.in-None.ensures.steps.0.0 in
    writes_as (sym (ap (λ (n : ℕ). near_rows c.args.place n 0 all) c.count_rows-count.ensures))
    (gone c.loop-n.invariant none)
