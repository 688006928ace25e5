-- `run_end` meets its contract: the bytes passed belong to the run.
use mathlib.Core.Path.{sym, ap, ◌∙◌}
use mathlib.Core.Bool.{not}
use native.Mathlib.Omega.{arith}
use borrow.Author.Tests.{not-true}
use Rattle.source.specs.Contract.{in_class}
use Rattle.source.proofs.Runs.{ran_start, ran_on, ran_stops, ran_out}
use Rattle.source.proofs.bytes.run_end.Goals as goal

pub loop-i-init : goal.loop-i-init
loop-i-init c = (ran_start (in_class c.args.class) c.args.s.now c.args.from, omega arith)

pub returns-then-not-is_in : goal.returns-then-not-is_in
returns-then-not-is_in c = ran_stops (in_class c.args.class) c.args.s.now c.args.from c.loop-i.i (omega arith)
    (sym c.is_in.ensures ∙ not-true _ (ap not c.if-not-is_in.true)) c.loop-i.invariant.0

pub loop-i-preserved : goal.loop-i-preserved
loop-i-preserved c = (
  ran_on (in_class c.args.class) c.args.s.now c.args.from c.loop-i.i (omega arith)
      (sym c.is_in.ensures ∙ c.if-not-is_in.false) c.loop-i.invariant.0,
  omega arith,
)

pub returns : goal.returns
returns c =
    let p = in_class c.args.class in
    let end = ran_out p c.args.s.now c.args.from c.loop-i.i (omega arith) c.loop-i.invariant.0 in
    record {
      told = omega (arith, end.told, c.max.ensures, c.loop-i.invariant.1);
      within = λ h. omega (arith, c.max.ensures);
    }
