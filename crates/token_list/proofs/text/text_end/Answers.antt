use Prim.Native.Nat.{ℕ, ◌≤◌}
use mathlib.Core.Path.{◌≡◌}
use lib.ListN.{length, drop}
use lib.Seq.{slice, take_all}
use Rattle.token_list.specs.Text.{all}
use mathlib.Core.Path.{ap}
use mathlib.Core.Bool.{not}
use Rattle.token_list.proofs.Texts.{all_none, all_more}
use Rattle.token_list.proofs.Lines.{scan_start, scan_more, scan_found, in_text_no_lf}
use Rattle.token_list.specs.Contract.{in_text}
use mathlib.Core.Path.{sym, ◌∙◌}
use native.Mathlib.Omega.{arith}
use borrow.Author.Tests.{not-true, not-false}
use Rattle.token_list.proofs.text.text_end.Goals as goal

pub loop-i-init : goal.loop-i-init
loop-i-init c = (
  scan_start c.args.s.now c.args.from,
  all_none (in_text c.args.names) c.args.s.now c.args.from c.args.from (omega arith),
)

pub returns-then-not-in_text : goal.returns-then-not-in_text
returns-then-not-in_text c = record {
  start = c.loop-i.invariant.0.start;
  fits = c.loop-i.invariant.1;
  stops = λ h. sym c.in_text.ensures ∙ not-true _ (ap not c.if-not-in_text.true);
  line = λ h q. scan_found c.args.s.now c.args.from c.loop-i.i h q c.loop-i.invariant.0;
}

pub loop-i-preserved : goal.loop-i-preserved
loop-i-preserved c = let fits = sym c.in_text.ensures ∙ not-false _ (ap not c.if-not-in_text.false) in (
  scan_more c.args.s.now c.args.from c.loop-i.i (omega arith) (in_text_no_lf c.args.names _ fits) c.loop-i.invariant.0,
  all_more (in_text c.args.names) c.args.s.now c.args.from c.loop-i.i c.loop-i.invariant.0.start (omega arith)
      c.loop-i.invariant.1 fits,
)

pub returns : goal.returns
returns c =
    let s = c.args.s.now in
    let whole : (e : ℕ) → length s ≤ e → slice c.args.from e s ≡ drop c.args.from s =
    λ e h. ap (drop c.args.from) (take_all e s h) in
    let same = whole c.max.result (omega arith) ∙ sym (whole c.loop-i.i (omega arith)) in
    record {
      start = omega arith;
      fits = ap (all (in_text c.args.names)) same ∙ c.loop-i.invariant.1;
      stops = λ h. absurd (omega arith);
      line = λ h. absurd (omega arith);
    }
