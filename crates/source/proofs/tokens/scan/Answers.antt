-- `scan` meets its contract: at each piece the groups that are open, the rows so far and the list are known.
use mathlib.Core.Path.{refl, ◌∙◌}
use native.Mathlib.Omega.{arith}
use Rattle.source.specs.Tokens.{fault, listed}
use Rattle.source.proofs.Lexes.{piece-here, rest-stops}
use Rattle.source.proofs.Stacks.{piece_step}
use Rattle.source.proofs.Walks.{turned_known, unturned, reached_fault, reached_whole, reached_open}
use Rattle.source.proofs.Scans.{scan_start, scan_piece, scan_whole}
use Rattle.source.proofs.tokens.scan.Goals as goal

pub loop-p-init : goal.loop-p-init
loop-p-init c = (refl, scan_start c.args.s.now c.args.cells.now c.requires)

pub turn-requires : goal.turn-requires
turn-requires c =
    let here = piece-here c.in-Some.ensures in
    record {
      i_in_bounds = here;
      step_as = piece_step _ _ here c.in-Some.ensures;
      reached = c.loop-p.invariant.1.1.reached;
    }

pub piece_more-measured-requires : goal.piece_more-measured-requires
piece_more-measured-requires c = (_, _, c.in-Some.ensures)

pub append_piece-at-requires : goal.append_piece-at-requires
append_piece-at-requires c = (_, c.in-Some.ensures)

pub loop-p-smaller : goal.loop-p-smaller
loop-p-smaller c =
    let known = turned_known c.in-Some-turn.ensures in
    omega (arith, known.0.forth, c.past_piece-i.ensures.told, known.0.within)

pub loop-p-preserved : goal.loop-p-preserved
loop-p-preserved c =
    let stands = c.in-Some.ensures in
    let known = turned_known c.in-Some-turn.ensures in
    let counted = c.piece_more-measured.ensures c.args.s.now _ stands in (
      c.turn.auto.cells ∙ c.loop-p.invariant.0,
      scan_piece (piece-here stands) stands known.1 counted c.append_piece-at.ensures c.past_piece-i.ensures
          c.loop-p.invariant.1,
    )

pub returns-then-i-s : goal.returns-then-i-s
returns-then-i-s c =
    let stops = rest-stops c.args.s.now c.loop-p.i (omega arith) c.in_default.ensures in
    fault (reached_fault stops c.loop-p.invariant.1.1.reached)

pub innermost-open-requires : goal.innermost-open-requires
innermost-open-requires c =
    record {
      end_in_bounds = omega arith;
      s_len = reached_whole (omega arith) c.loop-p.invariant.1.1.within c.loop-p.invariant.1.1.reached;
      depth_nonzero = omega arith;
    }

pub returns-then-depth-ne0 : goal.returns-then-depth-ne0
returns-then-depth-ne0 c =
    fault
    (reached_open (omega arith) c.loop-p.invariant.1.1.within (omega arith) c.innermost-open.ensures
    c.loop-p.invariant.1.1.reached)

pub returns : goal.returns
returns c =
    listed
    (scan_whole (omega arith) c.if-depth-ne0.false c.in_default.ensures c.append-at.ensures c.loop-p.invariant.1)

pub returns-in_default-turn : goal.returns-in_default-turn
returns-in_default-turn c = fault (unturned c.in_default-turn.ensures)
