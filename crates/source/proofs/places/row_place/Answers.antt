use mathlib.Core.Path.{◌∙◌}
use Prim.Native.Nat.{◌-◌, ◌<◌}
use native.Mathlib.Omega.{arith}
use lib.ListN.{length}
use Rattle.source.specs.Stack.{rest}
use Rattle.source.specs.Place.{span_of}
use Rattle.source.specs.Places.{row_count}
use Rattle.source.proofs.Lexes.{piece_forth, piece-within, piece-here}
use Rattle.source.proofs.Spans.{counted_start, counted_here, counted_behind, counted_out}
use Rattle.source.proofs.places.row_place.Goals as goal

pub loop-p-init : goal.loop-p-init
loop-p-init c = counted_start c.args.s.now c.args.row

pub place_in-requires : goal.place_in-requires
place_in-requires c = (c.args.s.now, _, c.in-Some.ensures)

pub returns-then-left-rows : goal.returns-then-left-rows
returns-then-left-rows c = let few : c.loop-p.left < row_count c.in-Some.p =
    omega (arith, c.if-left-rows.true, c.row_count-rows.ensures) in
    let stands = c.in-Some.ensures in
    c.place_in.ensures few ∙ counted_here c.loop-p.invariant (piece-here stands) stands few

pub loop-p-smaller : goal.loop-p-smaller
loop-p-smaller c =
    let stands = c.in-Some.ensures in
    omega (arith, piece_forth stands, piece-within stands, c.piece_end-i.ensures)

pub loop-p-preserved : goal.loop-p-preserved
loop-p-preserved c =
    let stands = c.in-Some.ensures in
    let behind = counted_behind c.loop-p.invariant (piece-here stands) stands
    (omega (arith, c.row_count-rows.ensures, c.if-left-rows.false)) in
    record {
      within = omega (arith, piece-within stands, c.piece_end-i.ensures);
      same =
          (λ j. span_of (length c.args.s.now) (c.loop-p.left - c.row_count-rows.ensures j)
          (rest c.args.s.now (c.piece_end-i.ensures j))) ∙ behind;
    }

pub returns : goal.returns
returns c = counted_out c.loop-p.invariant c.in_default.ensures
