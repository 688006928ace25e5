use native.Mathlib.Omega.{arith}
use Rattle.std.proofs.lemmas.List.Sums.{prefix_len-le-length}
use Rattle.replay.specs.Header.{lower}
use Rattle.replay.proofs.header.read_header.Goals as goal

pub bounds-text-n : goal.bounds-text-n
bounds-text-n c = omega (arith, c.run-n.ensures, prefix_len-le-length lower c.args.text.now)
