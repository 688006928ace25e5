use mathlib.Core.Path.{◌≡◌, refl, ap, ◌∙◌}
use mathlib.Core.Bool.{Bool}
use Prim.Native.Nat.{◌+◌}
use native.Mathlib.Omega.{arith}
use lib.ListN.{drop}
use Rattle.token_list.specs.Layout.{marked, text_offset}
use Rattle.token_list.specs.Row.{mark_of}
use Rattle.token_list.proofs.Columns.{offset_low}
use Rattle.token_list.proofs.Starts.{list_long}
use Rattle.token_list.proofs.Streams.{punct-text, plain_offset, marked_offset, punct_here}
use Rattle.token_list.proofs.stream.punct_at.Goals as goal
use Rattle.token_list.proofs.stream.punct_at.Goals.{then-s-c, else-s-c}

pub bounds-s-c : goal.bounds-s-c
bounds-s-c c =
    let p = c.requires in
    let within = punct-text c.args.s.now c.args.c p.in_list c.args.b p.b_value p.at_value in
    let low = offset_low (marked c.args.s.now) in
    omega arith

pub has_marks-requires : goal.has_marks-requires
has_marks-requires c = list_long c.requires.in_list

pub mark-requires : goal.mark-requires
mark-requires c =
    let p = c.requires in
    let within = punct-text c.args.s.now c.args.c p.in_list c.args.b p.b_value p.at_value in
    let low = offset_low (marked c.args.s.now) in
    omega arith

-- whichever names the list has, the next row starts past one byte of text and an LF
pub returns : goal.returns
returns c =
    let s = c.args.s.now in
    let a = c.args in
    let p = c.requires in
    let next : c.if-s-c.size ≡ text_offset (marked s) + 2 = elim c.if-s-c.branch [
      | then-s-c w ↦
          let o = plain_offset s a.c p.in_list a.b p.b_value p.at_value w.if-s-c.true in omega arith
      | else-s-c w ↦
          let o = marked_offset s a.c p.in_list a.b p.b_value p.at_value w.if-s-c.false in omega arith
    ] in
    let joint = c.mark.ensures ∙ ap (λ (m : Bool). mark_of m (drop a.c.at s)) c.has_marks.ensures in
    punct_here s a.c p.in_list a.b p.b_value p.at_value _ joint refl refl (omega (arith, next)) (omega (arith, next))
    (omega (arith, next))
