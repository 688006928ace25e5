-- `hex_digits_end` meets its contract: of the digits the bytes before i are passed, `count` of them digits, worth v.
use mathlib.Core.Path.{refl, ap, ◌∙◌, sym}
use mathlib.Core.Bool.{not}
use native.Mathlib.Omega.{arith}
use lib.ListN.{drop_of_length-le}
use borrow.Author.Tests.{lt-ltb, le-ltb, not-true}
use Rattle.token_list.proofs.Texts.{chosen, passed_over, and_both, and_fails, and_last}
use Rattle.source.specs.Quoted.{hex_digits}
use Rattle.source.specs.Contract.{none}
use Rattle.source.proofs.Passed.{passed_start, passed_on, passed_ends, ends_takes}
use Rattle.source.proofs.Quotes.{digits-close, digits_gap, digits_no_gap, digits_next, worth-bound, worth_next}
use Rattle.source.proofs.quoted.hex_digits_end.Goals as goal
use Rattle.source.proofs.quoted.hex_digits_end.Goals.{then-count-eq0-via-then-count-eq0}
use Rattle.source.proofs.quoted.hex_digits_end.Goals.{then-count-eq0-via-else-count-eq0+then-not-is_scalar}
use Rattle.source.proofs.quoted.hex_digits_end.Goals.{then-digit-ge16-via-then-digit-ge16}
use Rattle.source.proofs.quoted.hex_digits_end.Goals.{then-digit-ge16-via-else-digit-ge16+then-count-ge6}

pub loop-i-init : goal.loop-i-init
loop-i-init c = (omega arith, omega arith, passed_start)

pub returns-then-count-eq0 : goal.returns-then-count-eq0
returns-then-count-eq0 c =
    let e = digits-close c.loop-i.count c.loop-i.v c.args.s.now c.loop-i.i (omega arith) c.if-b-eq125.true in
    elim c.then-count-eq0.branch [
      | then-count-eq0-via-then-count-eq0 w ↦
          let no = and_fails _ _ (le-ltb 0 c.loop-i.count (omega arith)) in
          passed_ends (none (e ∙ passed_over _ _ _ no)) c.loop-i.invariant.2
      | then-count-eq0-via-else-count-eq0+then-not-is_scalar w ↦
          let q = sym w.is_scalar.ensures ∙ not-true _ (ap not w.if-not-is_scalar.true) in
          let no = and_last _ _ (lt-ltb 0 c.loop-i.count (omega arith)) ∙ q in
          passed_ends (none (e ∙ passed_over _ _ _ no)) c.loop-i.invariant.2
    ]

pub returns-then-b-eq125 : goal.returns-then-b-eq125
returns-then-b-eq125 c =
    let e = digits-close c.loop-i.count c.loop-i.v c.args.s.now c.loop-i.i (omega arith) c.if-b-eq125.true in
    let q = sym c.is_scalar.ensures ∙ c.if-not-is_scalar.false in
    let both = and_both _ _ (lt-ltb 0 c.loop-i.count (omega arith)) q in
    passed_ends (ends_takes 1 (e ∙ chosen _ _ _ both) refl (omega arith) (omega arith)) c.loop-i.invariant.2

pub returns-then-count-eq0-2 : goal.returns-then-count-eq0-2
returns-then-count-eq0-2 c =
    let e = digits_no_gap c.loop-i.count c.loop-i.v c.args.s.now c.loop-i.i (omega arith) c.if-b-eq95.true
    c.if-count-eq0-2.true in
    passed_ends (none e) c.loop-i.invariant.2

pub loop-i-preserved-then-b-eq95 : goal.loop-i-preserved-then-b-eq95
loop-i-preserved-then-b-eq95 c =
    let e = digits_gap c.loop-i.count c.loop-i.v c.args.s.now c.loop-i.i (omega arith) c.if-b-eq95.true (omega arith) in
    (c.loop-i.invariant.0, c.loop-i.invariant.1, passed_on 1 refl e c.loop-i.invariant.2)

pub returns-then-digit-ge16 : goal.returns-then-digit-ge16
returns-then-digit-ge16 c =
    let e = digits_next c.loop-i.count c.loop-i.v c.args.s.now c.loop-i.i
    (omega arith) c.digit_worth-digit.ensures.value c.if-b-eq125.false c.if-b-eq95.false in
    elim c.then-digit-ge16.branch [
      | then-digit-ge16-via-then-digit-ge16 w ↦
          let no = and_fails _ _ (le-ltb _ _ w.if-digit-ge16.true) in
          passed_ends (none (e ∙ passed_over _ _ _ no)) c.loop-i.invariant.2
      | then-digit-ge16-via-else-digit-ge16+then-count-ge6 w ↦
          let no = and_last _ _ (lt-ltb _ _ w.if-digit-ge16.false) ∙ le-ltb _ _ w.if-count-ge6.true in
          passed_ends (none (e ∙ passed_over _ _ _ no)) c.loop-i.invariant.2
    ]

pub overflow_mul-v : goal.overflow_mul-v
overflow_mul-v c = omega (arith, worth-bound c.loop-i.count c.loop-i.v c.if-count-ge6.false c.loop-i.invariant.1)

pub overflow_add-v : goal.overflow_add-v
overflow_add-v c = omega (arith, worth-bound c.loop-i.count c.loop-i.v c.if-count-ge6.false c.loop-i.invariant.1)

pub loop-i-preserved : goal.loop-i-preserved
loop-i-preserved c =
    let e = digits_next c.loop-i.count c.loop-i.v c.args.s.now c.loop-i.i
    (omega arith) c.digit_worth-digit.ensures.value c.if-b-eq125.false c.if-b-eq95.false in
    let both = and_both _ _ (lt-ltb _ _ c.if-digit-ge16.false) (lt-ltb _ _ c.if-count-ge6.false) in
    let bound = worth_next c.loop-i.count c.loop-i.v c.digit_worth-digit.result c.loop-i.invariant.1
    c.if-digit-ge16.false in
    (omega arith, bound, passed_on 1 refl (e ∙ chosen _ _ _ both) c.loop-i.invariant.2)

pub returns : goal.returns
returns c = let e = drop_of_length-le c.args.s.now {i = c.loop-i.i} (omega arith) in
    passed_ends (none (ap (hex_digits c.loop-i.count c.loop-i.v) e)) c.loop-i.invariant.2
