use mathlib.Core.Path.{refl, sym, ap, ◌∙◌}
use Prim.Native.Nat.{ℕ}
use native.Mathlib.Omega.{arith}
use Rattle.std.proofs.Common.{rules}
use Rattle.token_list.specs.Layout.{OPEN, CLOSE}
use Rattle.source.specs.declared.piece.Piece.TheVariants.{Row}
use Rattle.source.proofs.Lexes.{piece_forth, piece-within, piece-here, rest-stops}
use Rattle.source.proofs.Stacks.{piece_stands, piece_opens, piece_closes, piece_passes}
use Rattle.source.specs.Stack.{IsNot}
use Rattle.source.proofs.Walks.{sought-start, sought_passes, sought-opens, sought-closes, sought_done, sought_fault}
use Rattle.source.proofs.brackets.innermost.Goals as goal
use Rattle.source.proofs.brackets.innermost.Goals.{in-Row-eq111-default+then-count-depth}
use Rattle.source.proofs.brackets.innermost.Goals.{in-Row-eq111-default+else-count-depth, in-Row-eq99-default}
use Rattle.source.proofs.brackets.innermost.Goals.{in-Row+in_default-1, in-Gap-1}

pub loop-i-init : goal.loop-i-init
loop-i-init c = sought-start c.requires.depth_nonzero

pub returns-in_default : goal.returns-in_default
returns-in_default c =
    let fault = rest-stops c.args.s.now c.loop-i.i (omega (arith, c.requires.end_in_bounds)) c.in_default.ensures in
    sought_fault c.requires.depth_nonzero c.requires.s_len fault c.loop-i.invariant

pub overflow_add-count : goal.overflow_add-count
overflow_add-count c = omega (arith, c.loop-i.invariant.1.low, piece-here c.in-Some.ensures)

pub loop-i-smaller : goal.loop-i-smaller
loop-i-smaller c =
    let stands = c.in-Some.ensures in
    omega (arith, piece_forth stands, piece-within stands, c.piece_end-i.ensures)

pub loop-i-preserved : goal.loop-i-preserved
loop-i-preserved c =
    let s = c.args.s.now in
    let i = c.loop-i.i in
    let stands = c.in-Some.ensures in
    let here = piece-here stands in
    let within = piece_stands stands in
    let some = c.requires.depth_nonzero in
    elim c.match-p.branch [
      | in-Row-eq111-default+then-count-depth w ↦
          let arm = w.in-Row-eq111-default in
          let opening = ap (λ (k : ℕ). Row k arm.field-1) (sym arm.field-0-is ∙ arm.field-0-test) in
          let step = piece_opens s i here _ (arm.is ∙ opening) stands in
          rw (w.count-is, w.found-is, c.piece_end-i.ensures)
          (sought-opens some (omega arith) within step ((λ _. refl), λ no. absurd (no w.if-count-depth.true))
          c.loop-i.invariant)
      | in-Row-eq111-default+else-count-depth w ↦
          let arm = w.in-Row-eq111-default in
          let opening = ap (λ (k : ℕ). Row k arm.field-1) (sym arm.field-0-is ∙ arm.field-0-test) in
          let step = piece_opens s i here _ (arm.is ∙ opening) stands in
          rw (w.count-is, w.found-is, c.piece_end-i.ensures)
          (sought-opens some (omega arith) within step ((λ yes. absurd (w.if-count-depth.false yes)), λ _. refl)
          c.loop-i.invariant)
      | in-Row-eq99-default w ↦
          let arm = w.in-Row-eq99-default in
          let closing = ap (λ (k : ℕ). Row k arm.field-1) (sym arm.field-0-is ∙ arm.field-0-test) in
          let step = piece_closes s i here _ (arm.is ∙ closing) stands in
          rw (w.count-is, w.saturating_sub-count.ensures, w.found-is, c.piece_end-i.ensures)
          (sought-closes some (omega arith) within step c.loop-i.invariant)
      | in-Row+in_default-1 w ↦
          let opens : IsNot OPEN c.in-Some.p = λ e q. search rules in
          let closes : IsNot CLOSE c.in-Some.p = λ e q. search rules in
          rw (w.count-is, w.found-is, c.piece_end-i.ensures)
          (sought_passes some (omega arith) within (piece_passes s i here stands opens closes) c.loop-i.invariant)
      | in-Gap-1 w ↦
          let opens : IsNot OPEN c.in-Some.p = λ e q. search rules in
          let closes : IsNot CLOSE c.in-Some.p = λ e q. search rules in
          rw (w.count-is, w.found-is, c.piece_end-i.ensures)
          (sought_passes some (omega arith) within (piece_passes s i here stands opens closes) c.loop-i.invariant)
    ]

pub returns : goal.returns
returns c = sought_done c.requires.depth_nonzero c.requires.s_len (omega arith) c.loop-i.invariant
