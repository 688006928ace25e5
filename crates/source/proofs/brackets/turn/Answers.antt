use mathlib.Core.Path.{sym, ap, ◌∙◌}
use Prim.Native.Nat.{ℕ}
use native.Mathlib.Omega.{arith}
use Rattle.std.proofs.Common.{rules}
use Rattle.token_list.specs.Layout.{OPEN, CLOSE}
use Rattle.source.specs.Stack.{turned, fault, IsNot}
use Rattle.source.specs.declared.piece.Piece.TheVariants.{Row}
use Rattle.source.proofs.Walks.{reached_passes, reached_opens, reached_none, reached_count, reached_closes}
use Rattle.source.proofs.Walks.{reached_unmatched}
use Rattle.source.proofs.brackets.turn.Goals as goal

pub push-requires-clause-d_value : goal.push-requires-clause-d_value
push-requires-clause-d_value c =
    let arm = c.in-Row-eq111-default in
    let opening = ap (λ (k : ℕ). Row k arm.field-1) (sym arm.field-0-is ∙ arm.field-0-test) in
    (c.requires.step_as.opening _ (arm.is ∙ opening)).delimiter

pub returns-in-Row-eq111-default : goal.returns-in-Row-eq111-default
returns-in-Row-eq111-default c =
    let arm = c.in-Row-eq111-default in
    let opening = ap (λ (k : ℕ). Row k arm.field-1) (sym arm.field-0-is ∙ arm.field-0-test) in
    let step = c.requires.step_as.opening _ (arm.is ∙ opening) in
    let within = c.requires.step_as.within in
    turned within (reached_opens within step c.push.ensures c.requires.reached)

pub returns-then-depth-eq0 : goal.returns-then-depth-eq0
returns-then-depth-eq0 c =
    let arm = c.in-Row-eq99-default in
    let closing = ap (λ (k : ℕ). Row k arm.field-1) (sym arm.field-0-is ∙ arm.field-0-test) in
    let step = c.requires.step_as.closing _ (arm.is ∙ closing) in
    fault (reached_none step c.if-depth-eq0.true c.requires.reached)

pub delimiter_at-requires-clause-s_len : goal.delimiter_at-requires-clause-s_len
delimiter_at-requires-clause-s_len c = reached_count c.requires.reached

pub returns-then-closer-s : goal.returns-then-closer-s
returns-then-closer-s c =
    let arm = c.in-Row-eq99-default in
    let closing = ap (λ (k : ℕ). Row k arm.field-1) (sym arm.field-0-is ∙ arm.field-0-test) in
    let step = c.requires.step_as.closing _ (arm.is ∙ closing) in
    fault
    (reached_unmatched _ step (omega arith) c.delimiter_at.ensures c.pop-held.ensures
    (λ e. c.if-closer-s.true (c.closer.ensures ∙ e)) c.requires.reached)

pub returns-else-closer-s : goal.returns-else-closer-s
returns-else-closer-s c =
    let arm = c.in-Row-eq99-default in
    let closing = ap (λ (k : ℕ). Row k arm.field-1) (sym arm.field-0-is ∙ arm.field-0-test) in
    let step = c.requires.step_as.closing _ (arm.is ∙ closing) in
    let within = c.requires.step_as.within in
    turned within
    (reached_closes _ step (omega arith) c.delimiter_at.ensures c.pop-held.ensures within
    (sym c.closer.ensures ∙ c.if-closer-s.false) c.requires.reached)

pub returns-in_default : goal.returns-in_default
returns-in_default c =
    let opens : IsNot OPEN c.args.p = λ e q. search rules in
    let closes : IsNot CLOSE c.args.p = λ e q. search rules in
    let within = c.requires.step_as.within in
    let step = c.requires.step_as.passing opens closes in
    turned within (reached_passes within step c.requires.reached)

pub returns-in_default-2 : goal.returns-in_default-2
returns-in_default-2 c =
    let opens : IsNot OPEN c.args.p = λ e q. search rules in
    let closes : IsNot CLOSE c.args.p = λ e q. search rules in
    let within = c.requires.step_as.within in
    let step = c.requires.step_as.passing opens closes in
    turned within (reached_passes within step c.requires.reached)
