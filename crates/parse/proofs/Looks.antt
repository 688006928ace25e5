-- What a look at the first row tells of a reading.
use mathlib.Core.Path.{◌≡◌, refl}
use mathlib.Core.Bool.{Bool, true, false, ◌&&◌}
use mathlib.Core.List.{List, [], ◌∷◌}
use Prim.Native.Nat.{ℕ}
use borrow.Author.Tests.{ne_eqb}
use Rattle.token_list.specs.Layout.{OPEN}
use Rattle.token_list.specs.Byte.{LESS, code}
use Rattle.token_list.specs.Text.{same}
use Rattle.token_list.specs.Row.{first}
use Rattle.token_list.specs.Stream.{Trees, end, leaf, group, first_kind_lem, first_byte_lem, starts_punct}
use Rattle.token_list.proofs.Texts.{passed_over, and_fails}
use Rattle.reading.specs.Declaration.{default, without}
use Rattle.reading.specs.Took.{took}
use Rattle.reading.specs.Token.{starts}
use Rattle.reading.specs.Reading.{is_punct, is_ident, PUB, punct_if, visibility, tuple_field, tuple_type}
use Rattle.reading.specs.Reading.{generics, variant, variant_here}

pub starts-punct : (b : ℕ) (ts : Trees) → starts_punct b ts ≡ starts (is_punct b) ts
starts-punct b end = refl
starts-punct b (leaf r us) = refl
starts-punct b (group d ts us) = refl

pub no_punct : (b n row : ℕ) (ts : Trees) → starts (is_punct b) ts ≡ false → punct_if b n row ts ≡ took false [] ts
no_punct b n row end e = refl
no_punct b n row (leaf r us) e = passed_over _ _ _ e
no_punct b n row (group d ts us) e = refl

pub no_generics : (row : ℕ) (ts : Trees) → starts (is_punct LESS) ts ≡ false → generics row ts ≡ took without [] ts
no_generics row end e = refl
no_generics row (leaf r us) e = passed_over _ _ _ e
no_generics row (group d ts us) e = refl

-- a text that does not begin with `p`
no_pub : (t : List ℕ) → (first t ≡ code "p" → ⊥) → same t PUB ≡ false
no_pub [] n = refl
no_pub (b ∷ t) n = and_fails _ _ (ne_eqb b (code "p") n)

last_fails : (a b : Bool) → b ≡ false → (a && b) ≡ false
last_fails true b e = e
last_fails false b e = refl

pub no_visibility : (row : ℕ) (ts : Trees) → (first_kind_lem ts ≡ OPEN → ⊥) → (first_byte_lem ts ≡ code "p" → ⊥) →
    visibility row ts ≡ took default [] ts
no_visibility row end k m = refl
no_visibility row (leaf r us) k m = passed_over _ _ _ (last_fails (is_ident r) _ (no_pub r.text m))
no_visibility row (group d ts us) k m = absurd (k refl)

-- readers that ask first whether anything stands there
pub as_type : (row : ℕ) (ts : Trees) → (ts ≡ end → ⊥) → tuple_field row ts ≡ tuple_type row ts
as_type row end n = absurd (n refl)
as_type row (leaf r us) n = refl
as_type row (group d ts us) n = refl

pub as_variant : (row : ℕ) (ts : Trees) → (ts ≡ end → ⊥) → variant row ts ≡ variant_here row ts
as_variant row end n = absurd (n refl)
as_variant row (leaf r us) n = refl
as_variant row (group d ts us) n = refl
