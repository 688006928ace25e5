use Rattle.source.proofs.Pieces.{literal_to}
use Rattle.source.proofs.piece.literal.Goals as goal

pub returns : goal.returns
returns c = λ i t h. literal_to h c.suffix_end.ensures
