use mathlib.Core.Path.{ap, sym}
use mathlib.Core.List.{List}
use Prim.Native.Nat.{ℕ}
use denote.Bor.{Bor}
use borrow.Author.Tests.{eq-eqb, ne_eqb}
use Rattle.output.proofs.Writers.{writes_as}
use Rattle.explanation.specs.Explanation.{sign}
use Rattle.explanation.proofs.rows.put_sign.Goals as goal
use Rattle.explanation.proofs.rows.put_sign.Goals.{then-n-place, else-n-place}

pub returns : goal.returns
unfolding sign
returns c = elim c.if-n-place.branch [
  | then-n-place w ↦ rw (eq-eqb _ _ w.if-n-place.true) (writes_as (sym (ap (λ (b : Bor (List ℕ)). b.now) w.bytes-is))
      c.bytes.ensures)
  | else-n-place w ↦ rw (ne_eqb _ _ w.if-n-place.false) (writes_as (sym (ap (λ (b : Bor (List ℕ)). b.now) w.bytes-is))
      c.bytes.ensures)
]
