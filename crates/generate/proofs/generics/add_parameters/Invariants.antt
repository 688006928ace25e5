use mathlib.Core.List.{map}
use Prim.Native.Nat.{◌-◌}
use lib.ListN.{length}
use Rattle.writing.specs.Names.{names_of}
use Rattle.writing.specs.Generics.{added_type}
use Rattle.generate.specs.Contract.{goes_out}
use Rattle.generate.proofs.Parameters.{Turned}
use Rattle.generate.proofs.generics.add_parameters.Given as goal

abbrev pub invariant-loop-p : goal.invariant-loop-p
invariant-loop-p l =
    Turned (goes_out l.form.names) (map added_type (names_of l.form.types.now)) l.angle l.s l.initial.c l.c l.first
    l.initial.b l.b l.leading

abbrev pub decreases-loop-p : goal.decreases-loop-p
decreases-loop-p l = length l.s - l.c.at
