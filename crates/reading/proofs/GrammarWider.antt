-- What the role grammar admits with some differences, it admits with more: so with any of them there is at most one
-- assignment.
use mathlib.Core.Path.{◌≡◌, refl, ap, ◌∙◌}
use mathlib.Core.Bool.{Bool, true, false, ◌||◌, or-true, false≢true}
use mathlib.Core.List.{List}
use Prim.Native.Nat.{ℕ}
use Rattle.token_list.specs.Row.{Row}
use Rattle.token_list.specs.Stream.{Trees, end, leaf, group}
use Rattle.token_list.proofs.Texts.{and_parts, and_both}
use Rattle.reading.specs.Keyword.{identifier}
use Rattle.reading.specs.Token.{is_ident, lone, Stops}
use Rattle.reading.specs.Grammar as g
use Rattle.reading.specs.Grammar.{Difference, everything}
use Rattle.reading.proofs.Promise.{obeys_unique}

module _ (fewer more : Difference → Bool) (wider : (d : Difference) → fewer d ≡ true → more d ≡ true) where
  unless : (d : Difference) (b : Bool) → g.Unless fewer d b → g.Unless more d b
  unless d b u = go (fewer d) refl u
    where
      go : (f : Bool) → fewer d ≡ f → (f || b) ≡ true → (more d || b) ≡ true
      go true e u = ap (λ (m : Bool). m || b) (wider d e)
      go false e u = ap (λ (c : Bool). more d || c) u ∙ or-true (more d)

  run : {st : Stops} {r depth : ℕ} {minus : Bool} {ts us : Trees} {rs : List ℕ} →
      g.Run fewer st r depth minus ts us rs → g.Run more st r depth minus ts us rs
  run (g.Run.arrow a h) = g.Run.arrow a (run h)
  run (g.Run.deeper a h) = g.Run.deeper a (run h)
  run (g.Run.back a z h) = g.Run.back a z (run h)
  run (g.Run.angle a z h) = g.Run.angle a z h
  run (g.Run.comma a z h) = g.Run.comma a z h
  run (g.Run.stop a) = g.Run.stop a
  run (g.Run.token a h) = g.Run.token a (run h)
  run (g.Run.inside a h) = g.Run.inside a (run h)
  run (g.Run.ended u) = g.Run.ended (unless g.open-angle _ u)

  -- a word passes a wider test
  word : {is was : Row → Bool} {r : ℕ} {ts us : Trees} {rs : List ℕ} → ((q : Row) → was q ≡ true → is q ≡ true)
      → g.Word fewer was r ts us rs → g.Word more is r ts us rs
  word k (g.Word.ident a) = g.Word.ident (k _ a)
  word {is} {was} k (g.Word.wrapped {ts = ts} u a) = g.Word.wrapped (wider g.one-word-group u) (alone ts a)
    where
      alone : (ts : Trees) → lone was ts ≡ true → lone is ts ≡ true
      alone end e = absurd (false≢true e)
      alone (group d ts us) e = absurd (false≢true e)
      alone (leaf q end) e = k q e
      alone (leaf q (leaf p us)) e = absurd (false≢true e)
      alone (leaf q (group d ts us)) e = absurd (false≢true e)

  name : (q : Row) → g.is_name fewer q ≡ true → g.is_name more q ≡ true
  name q e =
      let p = and_parts _ (is_ident q) e in
      and_both _ (is_ident q) (unless g.keyword-as-name (identifier q.text) p.0) p.1

  attributes : {ts us : Trees} {rs : List ℕ} → g.Attributes fewer ts us rs → g.Attributes more ts us rs
  attributes (g.Attributes.none e) = g.Attributes.none e
  attributes (g.Attributes.attribute a b h) = g.Attributes.attribute a b (attributes h)
  attributes (g.Attributes.idle u a b h) = g.Attributes.idle (wider g.idle-mark u) a b (attributes h)

  visibility : {ts us : Trees} {rs : List ℕ} → g.Visibility fewer ts us rs → g.Visibility more ts us rs
  visibility (g.Visibility.none e) = g.Visibility.none e
  visibility (g.Visibility.plain a b) = g.Visibility.plain a b
  visibility (g.Visibility.with_scope a b u) = g.Visibility.with_scope a b (unless g.scope-contents _ u)
  visibility (g.Visibility.wrapped u a b) = g.Visibility.wrapped (wider g.wrapped-pub u) a b
  visibility (g.Visibility.wrapped_scoped u v a) =
      g.Visibility.wrapped_scoped (wider g.wrapped-pub u) (wider g.any-scope v) a

  separator : {b : ℕ} {t : Bool} {ts us : Trees} {rs : List ℕ} → g.Separator fewer b t ts us rs
      → g.Separator more b t ts us rs
  separator (g.Separator.present e) = g.Separator.present e
  separator (g.Separator.absent e) = g.Separator.absent e

  bound : {ts us : Trees} {rs : List ℕ} → g.Bound fewer ts us rs → g.Bound more ts us rs
  bound (g.Bound.none e) = g.Bound.none e
  bound (g.Bound.bound e h) = g.Bound.bound e (run h)

  parameter : {ts us : Trees} {rs : List ℕ} → g.Parameter fewer ts us rs → g.Parameter more ts us rs
  parameter (g.Parameter.lifetime {p = p} a b u h) =
      g.Parameter.lifetime a (name p b) (unless g.raw-lifetime _ u) (bound h)
  parameter (g.Parameter.constant {p = p} a b h u) =
      g.Parameter.constant a (name p b) (bound h) (unless g.const-without-type _ u)
  parameter (g.Parameter.plain {q = q} a b c d) = g.Parameter.plain a (name q b) c d
  parameter (g.Parameter.bounded {q = q} a b c h) = g.Parameter.bounded a (name q b) c (run h)
  parameter (g.Parameter.defaulted {q = q} a b c h u) =
      g.Parameter.defaulted a (name q b) c (run h) (unless g.empty-type _ u)

  parameters : {ts us : Trees} {rs : List ℕ} → g.Parameters fewer ts us rs → g.Parameters more ts us rs
  parameters (g.Parameters.close e) = g.Parameters.close e
  parameters (g.Parameters.next h m u v k) =
      g.Parameters.next (parameter h) (separator m) (unless g.comma-after-parameter _ u) (unless g.parameter-order _ v)
      (parameters k)

  generics : {ts us : Trees} {rs : List ℕ} → g.Generics fewer ts us rs → g.Generics more ts us rs
  generics (g.Generics.none e) = g.Generics.none e
  generics (g.Generics.generics e h) = g.Generics.generics e (parameters h)

  clause : {ts us : Trees} {rs : List ℕ} → g.Clause fewer ts us rs → g.Clause more ts us rs
  clause (g.Clause.none e) = g.Clause.none e
  clause (g.Clause.clause e h u) = g.Clause.clause e (run h) (unless g.where-ends-at-group _ u)

  named_field : {ts us : Trees} {rs : List ℕ} → g.NamedField fewer ts us rs → g.NamedField more ts us rs
  named_field (g.NamedField.field {q = q} a b c d h u m) =
      g.NamedField.field (attributes a) (visibility b) (name q c) d (run h) (unless g.empty-type _ u) (separator m)

  named_fields : {ts : Trees} {rs : List ℕ} → g.NamedFields fewer ts rs → g.NamedFields more ts rs
  named_fields (g.NamedFields.last a b u) =
      g.NamedFields.last (attributes a) (visibility b) (unless g.lone-field-start _ u)
  named_fields (g.NamedFields.next h k) = g.NamedFields.next (named_field h) (named_fields k)

  tuple_field : {ts us : Trees} {rs : List ℕ} → g.TupleField fewer ts us rs → g.TupleField more ts us rs
  tuple_field (g.TupleField.field a b h u m) =
      g.TupleField.field (attributes a) (visibility b) (run h) (unless g.empty-type _ u) (separator m)

  tuple_fields : {ts : Trees} {rs : List ℕ} → g.TupleFields fewer ts rs → g.TupleFields more ts rs
  tuple_fields g.TupleFields.last = g.TupleFields.last
  tuple_fields (g.TupleFields.next e h k) = g.TupleFields.next e (tuple_field h) (tuple_fields k)

  variant_fields : {ts us : Trees} {rs : List ℕ} → g.VariantFields fewer ts us rs → g.VariantFields more ts us rs
  variant_fields (g.VariantFields.none e) = g.VariantFields.none e
  variant_fields (g.VariantFields.named e h) = g.VariantFields.named e (named_fields h)
  variant_fields (g.VariantFields.tuple e h) = g.VariantFields.tuple e (tuple_fields h)

  value : {ts us : Trees} {rs : List ℕ} → g.Value fewer ts us rs → g.Value more ts us rs
  value (g.Value.literal a b) = g.Value.literal a b
  value (g.Value.negative a b c d) = g.Value.negative a b c d

  variant : {ts us : Trees} {rs : List ℕ} → g.Variant fewer ts us rs → g.Variant more ts us rs
  variant (g.Variant.plain a b f m p) = g.Variant.plain (attributes a) (word name b) (variant_fields f) (separator m) p
  variant (g.Variant.valued a b f v m u w) =
      g.Variant.valued (attributes a) (word name b) (variant_fields f) (value v) (separator m)
      (unless g.comma-after-value _ u) (unless g.group-and-value _ w)

  variants : {ts : Trees} {rs : List ℕ} → g.Variants fewer ts rs → g.Variants more ts rs
  variants g.Variants.last = g.Variants.last
  variants (g.Variants.next e h k) = g.Variants.next e (variant h) (variants k)

  struct_body_lem : {tuple : Bool} {ts us : Trees} {rs : List ℕ} → g.StructBody fewer tuple ts us rs →
      g.StructBody more tuple ts us rs
  struct_body_lem (g.StructBody.unit e) = g.StructBody.unit e
  struct_body_lem (g.StructBody.named e h) = g.StructBody.named e (named_fields h)
  struct_body_lem (g.StructBody.tuple e h) = g.StructBody.tuple e (tuple_fields h)

  enum_body : {ts us : Trees} {rs : List ℕ} → g.EnumBody fewer ts us rs → g.EnumBody more ts us rs
  enum_body (g.EnumBody.unit u e) = g.EnumBody.unit (wider g.enum-semicolon u) e
  enum_body (g.EnumBody.variants u h) = g.EnumBody.variants (unless g.enum-delimiter _ u) (variants h)

  head : {is : Row → Bool} {ts us : Trees} {rs : List ℕ} → g.Head fewer is ts us rs → g.Head more is ts us rs
  head (g.Head.head a b) = g.Head.head (word (λ q e. e) a) (word name b)

  item : {tuple : Bool} {ts us : Trees} {rs : List ℕ} → g.Item fewer tuple ts us rs → g.Item more tuple ts us rs
  item (g.Item.struct a b c d e f) =
      g.Item.struct (attributes a) (visibility b) (head c) (generics d) (clause e) (struct_body_lem f)
  item (g.Item.enum a b c d e f) =
      g.Item.enum (attributes a) (visibility b) (head c) (generics d) (clause e) (enum_body f)

  left_over_lem : {tuple : Bool} {ts : Trees} → g.LeftOver fewer tuple ts → g.LeftOver more tuple ts
  left_over_lem g.LeftOver.none = g.LeftOver.none
  left_over_lem (g.LeftOver.semicolon e) = g.LeftOver.semicolon e
  left_over_lem (g.LeftOver.without_semicolon u) = g.LeftOver.without_semicolon (wider g.tuple-without-semicolon u)
  left_over_lem (g.LeftOver.clause u e h f) = g.LeftOver.clause (wider g.tuple-where u) e (run h) f
  left_over_lem (g.LeftOver.rows u) = g.LeftOver.rows (wider g.left-over-rows u)

  pub obeys : {ts : Trees} {rs : List ℕ} → g.Obeys fewer ts rs → g.Obeys more ts rs
  obeys (g.Obeys.obeys h l) = g.Obeys.obeys (item h) (left_over_lem l)

-- with any differences allowed, two assignments that obey are equal
pub unique : (allowed : Difference → Bool) {ts : Trees} (rs qs : List ℕ) → g.Obeys allowed ts rs →
    g.Obeys allowed ts qs → rs ≡ qs
unique allowed rs qs h k =
    obeys_unique rs qs (obeys allowed everything (λ d e. refl) h) (obeys allowed everything (λ d e. refl) k)
