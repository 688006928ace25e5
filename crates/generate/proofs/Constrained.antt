-- `:` and a run, where it is to stand.
use mathlib.Core.Path.{◌≡◌}
use mathlib.Core.Bool.{Bool, true, false}
use Prim.Native.Nat.{◌≤◌, ◌<◌}
use native.Mathlib.Omega.{arith}
use lib.ListN.{length}
use Rattle.token_list.specs.Stream.{Trees, end, leaf, group}
use Rattle.output.specs.Contract.{FAR}
use Rattle.writing.specs.Rows.{run_rows}
use Rattle.writing.specs.Generics.{constraints}
use Rattle.generate.specs.Contract.{Appended, constrained}
use Rattle.generate.specs.declared.stream_builder.ListBuilder.{ListBuilder}
use Rattle.generate.proofs.Builds.{unchanged}

module _ {b r : ListBuilder} where
  pub always : {x : Bool} (ts : Trees) → x ≡ true → Appended b r (constraints ts) → Appended b r (constrained x ts)
  always ts e h = rw e h

  -- a run that has a row
  pub some : {x : Bool} (ts : Trees) → x ≡ false → 0 < length (run_rows ts) → Appended b r (constraints ts)
      → Appended b r (constrained x ts)
  some end e n h = absurd (omega arith)
  some (leaf q us) e n h = rw e h
  some (group d ts us) e n h = rw e h

-- an empty one
pub none : {b : ListBuilder} {x : Bool} (ts : Trees) → x ≡ false → length (run_rows ts) ≤ 0
    → length b.out.now < FAR → Appended b b (constrained x ts)
none end e n h = rw e (unchanged h)
none (leaf q us) e n h = absurd (omega arith)
none (group d ts us) e n h = absurd (omega arith)
