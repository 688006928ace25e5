use native.Mathlib.Omega.{arith}
use Rattle.output.proofs.Writers.{begun, left_at}
use Rattle.describe.proofs.Answers.{listing-lines}
use Rattle.describe.proofs.listing.put_listing.Goals as goal

pub returns : goal.returns
returns c = λ x zs k q.
    let text = listing-lines x zs (c.put_item.ensures x k) (c.generics_lines.ensures x.generics k.generics)
    (c.body_lines.ensures x.body zs k.body q) in
    left_at (grind arith) (begun c.new-w.ensures.put text)
