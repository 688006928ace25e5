use native.Mathlib.Omega.{arith}
use Rattle.doubles.proofs.Tables.{holds_more}
use Rattle.doubles.proofs.seen.seen.Goals as goal

pub returns : goal.returns
returns c = λ ks t n. record {
  told = c.is_in-found.ensures ks t;
  holds = holds_more t c.args.key (omega arith) n c.add.ensures;
}
