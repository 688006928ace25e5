-- What a writer writes.
use Rattle.std.specs.Prelude.{◌≡◌, List, ℕ}
use Rattle.output.specs.Contract.{Put}
use Rattle.output.specs.declared.writer.Writer.{Writer}

-- the text stands behind what the writer wrote before, in the same output
pub record Writes (before after : Writer) (text : List ℕ) : Type 0 where
  pub same_output : after.out.ghost_name ≡ before.out.ghost_name
  pub put : Put before.out.now after.out.now before.at after.at text
