-- Laws on the item's word.
use mathlib.Core.Path.{◌≡◌, ap, ◌∙◌}
use mathlib.Core.Bool.{true, false}
use mathlib.Core.List.{List, []}
use Prim.Native.Nat.{ℕ}
use Rattle.token_list.specs.Text.{same}
use Rattle.token_list.specs.Stream.{Trees}
use Rattle.token_list.proofs.Texts.{chosen, passed_over}
use Rattle.reading.specs.Declaration.{Kind, struct, enum}
use Rattle.reading.specs.Took.{took, refuse, Reader}
use Rattle.reading.specs.Reading.{found, named_kind, STRUCT, ENUM}

module _ (t : List ℕ) (p row : ℕ) (ts : Trees) where
  pub kind_struct : same t STRUCT ≡ true → named_kind (found t p) row ts ≡ took struct [] ts
  kind_struct e = ap (λ (k : Reader Kind). k row ts) (chosen _ _ _ e)

  pub kind_enum : same t STRUCT ≡ false → same t ENUM ≡ true → named_kind (found t p) row ts ≡ took enum [] ts
  kind_enum e f = ap (λ (k : Reader Kind). k row ts) (passed_over _ _ _ e ∙ chosen _ _ _ f)

  pub kind_other : same t STRUCT ≡ false → same t ENUM ≡ false → named_kind (found t p) row ts ≡ refuse 25 p
  kind_other e f = ap (λ (k : Reader Kind). k row ts) (passed_over _ _ _ e ∙ passed_over _ _ _ f)
