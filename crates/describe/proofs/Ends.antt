-- A turn at which no thing was read: what was read is at its end.
use mathlib.Core.Path.{◌≡◌, refl}
use mathlib.Core.List.{List}
use Prim.Native.Nat.{ℕ}
use Rattle.std.specs.Prelude.{Result, Ok, Err}
use Rattle.token_list.specs.declared.check.Cursor.{Cursor}
use Rattle.token_list.specs.declared.check.Refusal.{Refusal}
use Rattle.token_list.specs.declared.stream.Token.{Token}
use Rattle.reading.specs.Declaration.{Field, UnnamedField, Parameter, Variant}
use Rattle.reading.specs.Reading.{Maybe, done}
use Rattle.reading.specs.Took.{Point}
use Rattle.parse.specs.Contract.{named_shown, next_shown, parameter_shown, variant_shown}
use Rattle.parse.specs.declared.utils.Next.{Next}
use Rattle.parse.specs.declared.utils.Next.TheVariants.{One, Done}
use Rattle.parse.specs.declared.generics.ParameterAt.{ParameterAt}
use Rattle.parse.specs.declared.variants.VariantAt.{VariantAt}

-- one thing or the end, or a refusal
abbrev pub Turn : Type 0 → Type 0
Turn T = Result (Next T Cursor) Refusal

abbrev pub NotOne : {T : Type 0} → Turn T → Type 0
NotOne {T} x = (r : T) → x ≡ Ok (One r) → ⊥

pub named_end : (s : List ℕ) (c : Cursor) (x : Turn (Token × Cursor)) → NotOne x → (v : Maybe Field) →
    named_shown s c x v → v ≡ done
named_end s c (Ok (One r)) h v k = absurd (h r refl)
named_end s c (Ok (Done d)) h v k = k
named_end s c (Err r) h v k = absurd k

pub tuple_end : (x : Turn Cursor) → NotOne x → (v : Maybe UnnamedField) → next_shown x v → v ≡ done
tuple_end (Ok (One r)) h v k = absurd (h r refl)
tuple_end (Ok (Done d)) h v k = k
tuple_end (Err r) h v k = absurd k

pub parameter_end : (s : List ℕ) (p : Point) (x : Turn ParameterAt) → NotOne x → (v : Maybe Parameter) →
    parameter_shown s p x v → v ≡ done
parameter_end s p (Ok (One r)) h v k = absurd (h r refl)
parameter_end s p (Ok (Done d)) h v k = k
parameter_end s p (Err r) h v k = absurd k

pub variant_end : (s : List ℕ) (c : Cursor) (x : Turn VariantAt) → NotOne x → (v : Maybe Variant) →
    variant_shown s c x v → v ≡ done
variant_end s c (Ok (One r)) h v k = absurd (h r refl)
variant_end s c (Ok (Done d)) h v k = k
variant_end s c (Err r) h v k = absurd k
