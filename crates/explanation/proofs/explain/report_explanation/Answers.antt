use native.Mathlib.Omega.{arith}
use mathlib.Core.Path.{sym, ap}
use lib.ListN.{length}
use lib.Seq.{length-take-le}
use Rattle.reading.specs.Answer.{answer}
use Rattle.report.proofs.Lines.{found, not_found}
use Rattle.output.proofs.Texts.{printed}
use Rattle.output.proofs.Writers.{begun, then, writes_as}
use Rattle.explanation.specs.Explanation.{names_line}
use Rattle.explanation.proofs.Lengths.{explained_few}
use Rattle.explanation.proofs.explain.report_explanation.Goals as goal

pub slice_bounds-put_roles-end : goal.slice_bounds-put_roles-end
slice_bounds-put_roles-end c = let f = found c.in-Ok.n (answer c.args.list.now (length c.args.roles.now)) c.in-Ok.is
    c.read_roles.ensures.read_as in
    f.within

pub slice_bounds-put_roles-end-in-Ok : goal.slice_bounds-put_roles-end-in-Ok
slice_bounds-put_roles-end-in-Ok c =
    let f = found c.in-Ok.n (answer c.args.list.now (length c.args.roles.now)) c.in-Ok.is
    c.read_roles.ensures.read_as in
    sym (length-take-le c.in-Ok.n c.read_roles.new.roles f.within)

pub returns-in-Err : goal.returns-in-Err
returns-in-Err c = let none = not_found c.read_roles.new.roles c.in-Err.r
    (answer c.args.list.now (length c.args.roles.now)) c.in-Err.is c.read_roles.ensures.read_as in record {
      printed = rw none c.put_refused.ensures.printed;
      roles_after = c.read_roles.ensures.roles_after;
      upper_bound = omega (arith, c.put_refused.ensures.upper_bound);
      by_index = c.read_roles.ensures.by_index;
    }

pub returns-in-Ok : goal.returns-in-Ok
returns-in-Ok c = let f = found c.in-Ok.n (answer c.args.list.now (length c.args.roles.now)) c.in-Ok.is
    c.read_roles.ensures.read_as in
    let few = explained_few c.args.list.now (length c.args.roles.now) f.declaration _ f.same in
    let names = writes_as (sym (ap names_line c.is_marked.ensures)) c.put_names_line.ensures in
    let p = printed (begun c.new-w.ensures.put (then names c.put_roles.ensures)) (omega (arith, few)) in
    record {
      printed = rw f.same (record { counted = p.counted; bytes = grind arith });
      roles_after = c.read_roles.ensures.roles_after;
      upper_bound = omega (arith, p.counted, few);
      by_index = c.read_roles.ensures.by_index;
    }
