use Rattle.std.proofs.lemmas.Result.{err_from_is_err_and}
use Rattle.token_list.proofs.Walks as walks
use native.Mathlib.Omega.{arith}
use mathlib.Core.Path.{refl, sym, ◌∙◌}
use Rattle.token_list.proofs.check.+walk.Goals as goal

pub loop-at-init : goal.loop-at-init
loop-at-init t c =
    record { counted = c.requires.counted; within = c.requires.within; from = omega arith; same = λ gs e. refl }

pub returns-then-row-ge-MAX_ROWS : goal.returns-then-row-ge-MAX_ROWS
returns-then-row-ge-MAX_ROWS t c = walks.at_limit c.loop-at.invariant c.loop-at-test.true c.if-row-ge-MAX_ROWS.true

pub returns-in_default : goal.returns-in_default
returns-in_default t c =
    walks.at_wrong c.loop-at.invariant c.loop-at-test.true c.if-row-ge-MAX_ROWS.false c.in_default.ensures

pub loop-at-preserved-in-Plain : goal.loop-at-preserved-in-Plain
loop-at-preserved-in-Plain t c =
    walks.at_plain c.loop-at.invariant c.if-row-ge-MAX_ROWS.false c.in-Some.ensures c.in-Plain.is

pub returns-in-Closed : goal.returns-in-Closed
returns-in-Closed t c =
    walks.at_close c.loop-at.invariant c.if-row-ge-MAX_ROWS.false c.in-Some.ensures c.in-Closed.is

pub returns-then-levels-eq0 : goal.returns-then-levels-eq0
returns-then-levels-eq0 t c =
    walks.too_deep c.loop-at.invariant c.if-row-ge-MAX_ROWS.false c.in-Some.ensures c.in-Opens.is c.if-levels-eq0.true

pub walk-requires : goal.walk-requires
walk-requires t c = (
  omega (arith, c.requires, c.if-levels-eq0.false),
  walks.opened c.loop-at.invariant c.if-row-ge-MAX_ROWS.false c.in-Some.ensures c.in-Opens.is,
)

pub returns-in-End : goal.returns-in-End
returns-in-End t c =
    walks.unclosed c.loop-at.invariant c.if-row-ge-MAX_ROWS.false c.in-Some.ensures c.in-Opens.is
    c.if-levels-eq0.false (rw c.in-End.is at c.in_ok-walk-in-Opens.ensures)

pub returns-in_err-walk-in-Opens : goal.returns-in_err-walk-in-Opens
returns-in_err-walk-in-Opens t c =
    let p = err_from_is_err_and c.from_residual.result c.from_residual.ensures.1 in
    rw (p.1, p.2) (walks.refused_inside c.loop-at.invariant c.if-row-ge-MAX_ROWS.false c.in-Some.ensures c.in-Opens.is
    c.if-levels-eq0.false c.in_err-walk-in-Opens.ensures)

pub returns-then-closer-e : goal.returns-then-closer-e
returns-then-closer-e t c =
    let closed = rw c.in-Close.is at c.in_ok-walk-in-Opens.ensures in
    walks.mismatched c.loop-at.invariant c.if-row-ge-MAX_ROWS.false c.in-Some.ensures c.in-Opens.is
    c.if-levels-eq0.false closed (λ q. c.if-closer-e.true (c.closer.ensures ∙ q))

pub loop-at-preserved : goal.loop-at-preserved
loop-at-preserved t c =
    let closed = rw c.in-Close.is at c.in_ok-walk-in-Opens.ensures in
    walks.matched c.loop-at.invariant c.if-row-ge-MAX_ROWS.false c.in-Some.ensures c.in-Opens.is
    c.if-levels-eq0.false closed (sym c.closer.ensures ∙ c.if-closer-e.false)

pub returns : goal.returns
returns t c = walks.at_end c.loop-at.invariant c.loop-at-test.false
