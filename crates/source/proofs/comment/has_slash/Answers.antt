-- `has_slash` meets its contract: unless one was seen, no `/` stands among the bytes so far.
use mathlib.Core.Path.{◌≡◌, sym, ap, ◌∙◌}
use mathlib.Core.Bool.{true≢false}
use Prim.Native.Nat.{ℕ, ◌+◌, ◌-◌, ◌<◌}
use native.Mathlib.Omega.{arith}
use borrow.Author.Count.{below_more}
use lib.ListN.{get_or, drop, length-take, length-drop}
use lib.Seq.{get_or-drop}
use Rattle.std.proofs.lemmas.List.{get_or-take}
use Rattle.source.proofs.comment.has_slash.Goals as goal
use Rattle.source.proofs.comment.has_slash.Goals.{then-b-eq47, else-b-eq47}

pub loop-b-preserved : goal.loop-b-preserved
loop-b-preserved c = elim c.if-b-eq47.branch [
  | then-b-eq47 w ↦ λ q. absurd (true≢false (sym w.any-is ∙ q))
  | else-b-eq47 w ↦ λ q. below_more _ c.loop-b.b-index (c.loop-b.invariant (sym w.any-is ∙ q)) w.if-b-eq47.false
]

pub returns : goal.returns
returns c = λ q k l m e.
    let s = c.args.s.now in
    let i = c.args.i in
    let n = c.args.e - i in
    let place : i + (k - i) ≡ k = omega (arith, m) in
    let same = get_or-take n (drop i s) (k - i) 0 (omega (arith, l, m)) ∙ get_or-drop i s (k - i) 0
    ∙ ap (λ (j : ℕ). get_or s j 0) place in
    let far : k - i < c.loop-b.b-index =
    omega (arith, length-take n (drop i s), length-drop i s, c.requires.e_in_bounds, l, m) in
    c.loop-b.invariant q (k - i) far (same ∙ e)
