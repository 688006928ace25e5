use native.Mathlib.Omega.{arith}
use Rattle.std.proofs.lemmas.List.Sums.{prefix_len-le-length}
use Rattle.token_list.specs.Text.{digit}
use Rattle.replay.proofs.Headers.{size-negatable}
use Rattle.replay.proofs.header.read_size.Goals as goal

pub bounds-text-n : goal.bounds-text-n
bounds-text-n c = omega (arith, c.run-n.ensures, prefix_len-le-length digit c.args.text.now)

pub worth-requires-clause-s_value : goal.worth-requires-clause-s_value
worth-requires-clause-s_value c = size-negatable c.args.text.now c.run-n.result c.run-n.ensures (omega arith)
