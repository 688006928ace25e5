use Rattle.std.specs.Slice.Iter.{iter_rest}
use Rattle.token_list.specs.Layout.{first_row}
use Rattle.token_list.specs.Reader.{bytes_from}
use Rattle.output.proofs.Writers.{Going}
use Rattle.explanation.specs.Explanation.{role_rows}
use Rattle.explanation.proofs.rows.put_roles.Given as goal

abbrev pub invariant-loop-n : goal.invariant-loop-n
invariant-loop-n l = Going l.initial.w l.w (role_rows 0 l.roles (bytes_from l.list (first_row l.list)))
    (role_rows l.n-iterator.count (iter_rest l.n-iterator.iter.b) (bytes_from l.n-iterator.iter.a.reader.list.now l.n-iterator.iter.a.reader.at))
