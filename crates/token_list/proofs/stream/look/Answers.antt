use Rattle.token_list.proofs.Starts.{list_long}
use mathlib.Core.Path.{sym, ap, ◌∙◌, subst}
use Prim.Native.Nat.{ℕ, ◌+◌}
use native.Mathlib.Omega.{arith}
use lib.ListN.{get_or}
use Rattle.token_list.specs.Layout.{text_offset}
use mathlib.Core.Path.{◌≡◌}
use Rattle.token_list.specs.Stream.{at, end}
use Rattle.token_list.specs.Contract.{Looked}
use Rattle.token_list.proofs.Rows.{first-row, text-within}
use Rattle.token_list.proofs.Streams as laws
use Rattle.token_list.proofs.stream.look.Goals as goal
use Rattle.token_list.proofs.stream.look.Goals.{then-s-c-via-then-s-c, then-s-c-via-else-s-c+then-s-c-eq99}

pub returns-then-s-c : goal.returns-then-s-c
returns-then-s-c c =
    let none : (at c.args.s.now c.args.c.at).here ≡ end = elim c.then-s-c.branch [
      | then-s-c-via-then-s-c w ↦ laws.none_here _ c.args.c c.requires w.if-s-c.true
      | then-s-c-via-else-s-c+then-s-c-eq99 w ↦ laws.close_here _ c.args.c c.requires w.if-s-c.false w.if-s-c-eq99.true
    ] in
    laws.look_none _ c.args.c c.requires none

pub has_marks-requires : goal.has_marks-requires
has_marks-requires c = list_long c.requires

pub bounds-s-c-3 : goal.bounds-s-c-3
bounds-s-c-3 c = let f = first-row c.args.s.now c.args.c.at c.requires.right_rows c.if-s-c.false in
    let off = c.text_offset.ensures ∙ ap text_offset c.has_marks.ensures in
    omega (arith, text-within _ _ f, off)

pub returns : goal.returns
returns c = let off = c.text_offset.ensures ∙ ap text_offset c.has_marks.ensures in
    subst (λ (n : ℕ). Looked c.args.s.now c.args.c.at
    (record { kind = get_or c.args.s.now c.args.c.at 0; first = get_or c.args.s.now (c.args.c.at + n) 0 })) (sym off)
    (laws.look_here _ c.args.c c.requires c.if-s-c.false c.if-s-c-eq99.false)
