use mathlib.Core.Path.{◌≡◌}
use mathlib.Core.Bool.{false}
use mathlib.Core.List.{List, ◌++◌}
use Prim.Native.Nat.{ℕ, ◌-◌, ◌≤◌}
use lib.ListN.{length}
use Rattle.token_list.specs.Row.{written}
use Rattle.output.specs.Contract.{Appended}
use Rattle.source.specs.Lex.{lex}
use Rattle.source.specs.Answer.{rows_of}
use Rattle.source.specs.Stack.{rest}
use Rattle.source.proofs.tokens.append_list.Given as goal

abbrev pub invariant-loop-p : goal.invariant-loop-p
invariant-loop-p l = (l.i ≤ length l.s) × (done : List ℕ) × Appended l.initial.out l.out l.initial.at l.at done
    × (done ++ written false (rows_of (rest l.s l.i)) ≡ written false (rows_of (lex l.s)))

abbrev pub decreases-loop-p : goal.decreases-loop-p
decreases-loop-p l = length l.s - l.i
