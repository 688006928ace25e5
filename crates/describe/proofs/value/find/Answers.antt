use native.Mathlib.Omega.{arith}
use Prim.Native.Nat.{ℕ}
use mathlib.Core.List.{List}
use mathlib.Core.Path.{◌≡◌, refl, sym, ◌∙◌, ap, subst, subst⁻¹}
use Rattle.token_list.specs.declared.check.Cursor.{Cursor}
use Rattle.describe.proofs.Ends.{Turn, NotOne, variant_end}
use Rattle.parse.specs.declared.variants.VariantAt.{VariantAt}
use Rattle.reading.proofs.Conserved as conserved
use Rattle.parse.specs.Contract as contract
use Rattle.reading.specs.Reading as reading
use Rattle.reading.specs.Declaration as declaration
use Rattle.describe.specs.Value.{value_at}
use Rattle.parse.proofs.Inside.{inside-more, inside_done, inside_refused, forward}
use Rattle.describe.proofs.Worths.{value-first, value_later, variant-first, variant_later}
use Rattle.parse.proofs.Places.{meets_beyond}
use Rattle.parse.specs.declared.variants.ValueAt.{ValueAt}
use Rattle.reading.specs.Took.{Point}
use Rattle.reading.specs.Place.{value_row}
use Rattle.describe.proofs.value.find.Goals as goal

-- the same value from an equal point
transport-row : (s : List ℕ) (r : ValueAt) {x y : Point} {v w : declaration.Value} → x ≡ y → v ≡ w →
    contract.ValueIn s (value_row x v) r → contract.ValueIn s (value_row y w) r
transport-row s r p q h = subst (λ (n : ℕ). contract.ValueIn s n r) (λ i. value_row (p i) (q i)) h

pub loop-v-init : goal.loop-v-init
loop-v-init c = (c.requires, refl, refl, λ vs i. (vs, i, refl))

pub returns-then-left-eq0 : goal.returns-then-left-eq0
returns-then-left-eq0 c =
    let read = rw c.in-Ok-One.field-0-is at c.in-Ok-One.ensures in
    λ vs i.
    let o = c.loop-v.invariant.3 vs i in
    let told : declaration.Variant → Type 0 =
    λ a. contract.VariantOf c.args.s.now c.in-Ok-One.v a ×
    contract.VariantPlaces c.args.s.now c.loop-v.c c.in-Ok-One.v a in
    let m = inside-more reading.variant conserved.variant_round {told = told} o.1 read
    (λ v h. (h.0, h.1, (h.2, h.3))) in
    let value = o.2 ∙ value-first {k = c.loop-v.left} (omega arith) m.split in
    let point = c.loop-v.invariant.2 ∙ variant-first {k =
    c.loop-v.left} (contract.point c.args.s.now c.loop-v.c) (omega arith) in
    record {
      value = subst⁻¹ (contract.ValueOf c.args.s.now c.in-Ok-One.v.value) value m.shown.0.value;
      place = transport-row c.args.s.now c.in-Ok-One.v.value (sym point) (sym value) m.shown.1.value;
    }

pub loop-v-smaller : goal.loop-v-smaller
loop-v-smaller c = let f = forward reading.variant conserved.variant_round
    (rw c.in-Ok-One.field-0-is at c.in-Ok-One.ensures)
    (λ v h. (h.0, h.1, h.2)) in omega (arith, f.0, f.1.within)

pub loop-v-preserved : goal.loop-v-preserved
loop-v-preserved c =
    let read = rw c.in-Ok-One.field-0-is at c.in-Ok-One.ensures in (
      (forward reading.variant conserved.variant_round read (λ v h. (h.0, h.1, h.2))).1,
      c.variant.auto.roles ∙ c.loop-v.invariant.1,
      c.loop-v.invariant.2
          ∙ variant_later c.loop-v.left _ _ (λ e. omega arith) (meets_beyond reading.variant read).here,
      λ vs i.
          let o = c.loop-v.invariant.3 vs i in
          let m = inside-more reading.variant conserved.variant_round o.1 read (λ v h. (h.0, h.1, h.2)) in
          (m.others, m.inside, o.2 ∙ value_later (λ e. omega arith) m.split),
    )

-- no variant more was read
none : (s : List ℕ) (c : Cursor) {r1 r2 : List ℕ} (x : Turn VariantAt) (left : ℕ) (ws : List declaration.Variant) →
    contract.InsideAt (reading.every reading.variant) s c ws →
    contract.Meets s c r1 r2 (contract.variant_shown s c x) (contract.variant_said x)
    (reading.variant c.row (contract.stream s c)) → NotOne x → value_at left ws ≡ declaration.absent
none s c {r1} {r2} x left ws i w h = ended (contract.variant_said x) w
  where
    ended : (y : contract.Said) → contract.Meets s c r1 r2 (contract.variant_shown s c x) y
        (reading.variant c.row (contract.stream s c)) → value_at left ws ≡ declaration.absent
    ended (contract.on d) w =
        ap (value_at left) (inside_done reading.variant conserved.variant_round i w (variant_end s c x h))
    ended (contract.no n p) w = inside_refused reading.variant conserved.variant_round i w

pub returns-in_default : goal.returns-in_default
returns-in_default c = λ vs i.
    let o = c.loop-v.invariant.3 vs i in
    record {
      value = o.2 ∙ none c.args.s.now c.loop-v.c c.variant.result c.loop-v.left o.0 o.1 c.variant.ensures (λ r e. cc);
      place = tt;
    }

pub returns-in_default-2 : goal.returns-in_default-2
returns-in_default-2 c = λ vs i.
    let o = c.loop-v.invariant.3 vs i in
    record {
      value = o.2 ∙ none c.args.s.now c.loop-v.c c.variant.result c.loop-v.left o.0 o.1 c.variant.ensures (λ r e. cc);
      place = tt;
    }
