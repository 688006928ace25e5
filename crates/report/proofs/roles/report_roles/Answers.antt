use native.Mathlib.Omega.{arith}
use mathlib.Core.Path.{sym}
use lib.ListN.{length}
use lib.Seq.{length-take-le}
use Rattle.reading.specs.Answer.{answer}
use Rattle.report.proofs.Lines.{found, not_found, roles_few}
use Rattle.output.proofs.Texts.{printed}
use Rattle.output.proofs.Writers.{begun, then}
use Rattle.report.proofs.roles.report_roles.Goals as goal

pub slice_bounds-put_lines-end : goal.slice_bounds-put_lines-end
slice_bounds-put_lines-end c = (found c.in-Ok.n (answer c.args.list.now (length c.args.roles.now)) c.in-Ok.is
    c.read_roles.ensures.read_as).within

pub slice_bounds-put_lines-end-in-Ok : goal.slice_bounds-put_lines-end-in-Ok
slice_bounds-put_lines-end-in-Ok c = sym
    (length-take-le c.in-Ok.n c.read_roles.new.roles
    (found c.in-Ok.n (answer c.args.list.now (length c.args.roles.now)) c.in-Ok.is
    c.read_roles.ensures.read_as).within)

pub returns-in-Err : goal.returns-in-Err
returns-in-Err c = let none = not_found c.read_roles.new.roles c.in-Err.r
    (answer c.args.list.now (length c.args.roles.now)) c.in-Err.is c.read_roles.ensures.read_as in record {
      printed = rw none c.put_refusal.ensures.printed;
      roles_after = c.read_roles.ensures.roles_after;
      upper_bound = omega (arith, c.put_refusal.ensures.upper_bound);
      by_index = c.read_roles.ensures.by_index;
    }

pub returns-in-Ok : goal.returns-in-Ok
returns-in-Ok c = let room = length c.args.roles.now in
    let f = found c.in-Ok.n (answer c.args.list.now room) c.in-Ok.is c.read_roles.ensures.read_as in
    let few = roles_few c.args.list.now room f.declaration _ f.same in
    let p = printed (begun c.new-w.ensures.put (then c.bytes.ensures c.put_lines.ensures)) (omega (arith, few)) in
    record {
      printed = rw f.same (record { counted = p.counted; bytes = grind arith });
      roles_after = c.read_roles.ensures.roles_after;
      upper_bound = omega (arith, p.counted, few);
      by_index = c.read_roles.ensures.by_index;
    }
