use mathlib.Core.Path.{refl, sym, ◌∙◌}
use native.Mathlib.Omega.{arith}
use Rattle.output.proofs.Writers.{left_at}
use Rattle.generate.proofs.Copying.{as_part, sent_length}
use Rattle.generate.proofs.stream_builder.ListBuilder.extend.Goals.{then-self, else-self}
use Rattle.generate.proofs.stream_builder.ListBuilder.extend.Goals as goal

pub returns-else-is_marked : goal.returns-else-is_marked
returns-else-is_marked c = elim c.if-self.branch [
  | then-self w ↦ grind arith
  | else-self w ↦ record {
    same_output = refl;
    marked = refl;
    rows = omega (arith, c.counted-self.ensures, sent_length c.requires);
    put = left_at (grind arith)
        (as_part c.requires w.if-self.false (sym w.is_marked.ensures ∙ sym w.value-is ∙ c.if-is_marked.false)
        c.bytes.ensures.put);
  }
]
