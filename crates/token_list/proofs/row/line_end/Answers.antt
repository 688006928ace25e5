use Rattle.token_list.proofs.Lines.{scan_start, scan_more, scan_found, scan_none}
use native.Mathlib.Omega.{arith}
use Rattle.token_list.proofs.row.line_end.Goals as goal

pub loop-i-init : goal.loop-i-init
loop-i-init c = scan_start _ _

pub returns-then-s-i-eq10 : goal.returns-then-s-i-eq10
returns-then-s-i-eq10 c = record {
  start = c.loop-i.invariant.start;
  found = λ h. scan_found c.args.s.now c.args.from c.loop-i.i h c.if-s-i-eq10.true
      c.loop-i.invariant;
  none = λ h. absurd (omega arith);
  lf = λ h. c.if-s-i-eq10.true;
}

pub loop-i-preserved : goal.loop-i-preserved
loop-i-preserved c = scan_more c.args.s.now c.args.from c.loop-i.i (omega arith) c.if-s-i-eq10.false c.loop-i.invariant

pub returns : goal.returns
returns c = record {
  start = omega arith;
  found = λ h. absurd (omega arith);
  none = λ h. scan_none c.args.s.now c.args.from c.loop-i.i c.loop-i-test.false c.loop-i.invariant;
  lf = λ h. absurd (omega arith);
}
