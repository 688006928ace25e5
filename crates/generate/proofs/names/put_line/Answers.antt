use mathlib.Core.List.{List, [], ◌∷◌}
use mathlib.Core.Path.{◌≡◌, refl, sym, ◌∙◌}
use Prim.Native.Nat.{ℕ}
use lib.Dec.{eqb}
use native.Mathlib.Omega.{arith}
use Rattle.std.proofs.lemmas.Bool.Decides.{nat_tests}
use Rattle.std.specs.List.{list_any}
use Rattle.token_list.specs.Byte.{LF}
use Rattle.token_list.specs.Text.{member}
use Rattle.output.proofs.Texts.{nothing}
use Rattle.output.proofs.Writers.{begun, left_at, then}
use Rattle.generate.proofs.names.put_line.Goals as goal

has_lf : (t : List ℕ) → list_any (λ y. eqb y LF) t ≡ member LF t
has_lf [] = refl
has_lf (b ∷ bs) = let h = has_lf bs in let e : eqb b LF ≡ eqb LF b = grind (arith, nat_tests) in cc

pub returns-then-contains : goal.returns-then-contains
returns-then-contains c =
    rw (sym (has_lf c.args.name.now) ∙ sym c.contains.ensures.value ∙ c.if-contains.true)
    (left_at (grind arith) (begun (nothing _ _ (omega arith)) c.byte.ensures))

pub returns : goal.returns
returns c =
    rw (sym (has_lf c.args.name.now) ∙ sym c.contains.ensures.value ∙ c.if-contains.false)
    (left_at (grind arith) (begun (nothing _ _ (omega arith)) (then c.bytes.ensures c.byte-2.ensures)))
