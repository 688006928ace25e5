use Rattle.token_list.specs.Layout.{first_row}
use Rattle.token_list.specs.Reader.{bytes_from}
use Rattle.output.proofs.Writers.{Going}
use Rattle.explanation.specs.Explanation.{near_rows}
use Rattle.explanation.proofs.rows.put_near.Given as goal

abbrev pub invariant-loop-n : goal.invariant-loop-n
invariant-loop-n l = Going l.initial.w l.w (near_rows l.place l.count 0 (bytes_from l.list (first_row l.list)))
    (near_rows l.place l.count l.n-iterator.count (bytes_from l.n-iterator.iter.reader.list.now l.n-iterator.iter.reader.at))
