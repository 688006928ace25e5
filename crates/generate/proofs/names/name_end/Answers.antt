use native.Mathlib.Omega.{arith}
use mathlib.Core.Path.{◌≡◌, sym}
use lib.ListN.{length}
use Rattle.generate.proofs.Added.{last}
use Rattle.generate.proofs.names.name_end.Goals as goal

pub returns : goal.returns
returns c = let e : length c.args.text.now ≡ c.loop-i.i = omega arith in
    rw e (last _ _ _ c.loop-i.invariant c.requires (sym e))
