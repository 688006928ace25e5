-- `string_end` meets its contract: of the string the bytes before i are passed.
use mathlib.Core.Path.{refl, ap}
use Prim.Native.Nat.{◌-◌}
use native.Mathlib.Omega.{arith}
use lib.ListN.{drop_of_length-le}
use Rattle.source.specs.Quoted.{string}
use Rattle.source.specs.Contract.{none}
use Rattle.source.proofs.Offsets.{ends_to, ends_not}
use Rattle.source.proofs.Passed.{passed_start, passed_on, passed_ends, ends_takes}
use Rattle.source.proofs.Quotes.{string_closed, string_broken, string_on}
use Rattle.source.proofs.quoted.string_end.Goals as goal

pub loop-i-init : goal.loop-i-init
loop-i-init c = passed_start

pub returns-then-s-i-eq34 : goal.returns-then-s-i-eq34
returns-then-s-i-eq34 c = let e = string_closed c.args.byte c.args.s.now c.loop-i.i (omega arith) c.if-s-i-eq34.true in
    passed_ends (ends_takes 1 e refl (omega arith) (omega arith)) c.loop-i.invariant

pub returns-in_err-i : goal.returns-in_err-i
returns-in_err-i c =
    let e = string_broken c.args.byte c.args.s.now c.loop-i.i (omega arith) c.if-s-i-eq34.false
    (ends_not c.in_err-i.ensures) in
    rw c.from_residual.ensures (passed_ends (none e) c.loop-i.invariant)

pub loop-i-smaller : goal.loop-i-smaller
loop-i-smaller c = let u = ends_to c.in_ok-i.ensures in omega (arith, u.forth, u.within)

pub loop-i-preserved : goal.loop-i-preserved
loop-i-preserved c = let u = ends_to c.in_ok-i.ensures in
    let e = string_on c.args.byte c.args.s.now c.loop-i.i (omega arith) c.if-s-i-eq34.false u in
    passed_on (c.in_ok-i.i - c.loop-i.i) (omega (arith, u.forth)) e c.loop-i.invariant

pub returns : goal.returns
returns c = let e = drop_of_length-le c.args.s.now {i = c.loop-i.i} (omega arith) in
    passed_ends (none (ap (string c.args.byte 0) e)) c.loop-i.invariant
