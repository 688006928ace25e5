-- Laws on parameters: a type's bound or default, by whether a `:` stands after its name, and their runs.
use mathlib.Core.Path.{◌≡◌, refl, ap, ◌∙◌, sym, subst⁻¹}
use mathlib.Core.Bool.{Bool, true, false, false≢true}
use mathlib.Core.List.{List, [], ◌∷◌}
use Prim.Native.Nat.{ℕ}
use Rattle.token_list.specs.Byte.{COLON, EQUALS}
use Rattle.token_list.specs.Stream.{Trees, end, leaf, group}
use Rattle.token_list.proofs.Texts.{chosen}
use Rattle.reading.specs.Token.{starts, is_punct}
use Rattle.reading.specs.Role as role
use Rattle.reading.specs.Declaration.{Parameter, type}
use Rattle.reading.specs.Took.{took, Reader, after, ◌>>=◌, pure}
use Rattle.reading.specs.Reading.{punct_if, run_if, parameter_stops, optional_run, type_runs, type_after}
use Rattle.reading.specs.Took.{Point}
use Rattle.token_list.specs.declared.stream.Token.{Token}
use Rattle.parse.specs.Contract.{TextOf, ParameterOf, parameter_made, ParameterRunAt, bound_of_lem, default_of}
use Rattle.parse.specs.Contract.{optional_run_shown, type_shown}
use Rattle.parse.specs.declared.generics.ParameterKind.{ParameterKind}
use Rattle.parse.specs.declared.generics.ParameterKind.TheVariants as kinds
use Rattle.parse.specs.declared.generics.RunPart.{RunPart}
use Rattle.parse.specs.declared.generics.RunPart.TheVariants as run_parts
use Rattle.parse.specs.declared.runs.Run.{Run}
use Rattle.std.specs.Prelude.{Result, Ok, Err}
use Rattle.token_list.specs.declared.check.Refusal.{Refusal}
use Rattle.parse.proofs.Looks.{no_punct}
use Rattle.parse.proofs.Meeting.{pure_then, after_assoc}

module _ (n : List ℕ) (row : ℕ) where
  abbrev bounded : Trees → Reader Parameter
  bounded b = pure (type n b end)

  pub type_bounded : (ts : Trees) → starts (is_punct COLON) ts ≡ true →
      type_after n row ts ≡ after row (optional_run COLON row ts) bounded
  type_bounded end e = absurd (false≢true e)
  type_bounded (group d ts us) e = absurd (false≢true e)
  type_bounded (leaf q us) e =
      let ts = leaf q us in
      let p : punct_if COLON role.separator row ts ≡ took true (role.separator ∷ []) us = chosen _ _ _ e in
      ap (λ t. after row t (type_runs n)) p
      ∙ sym (ap (λ t. after row t (λ b. run_if b parameter_stops role.bound >>= bounded)) p)
      ∙ sym (after_assoc row (punct_if COLON role.separator row ts) (λ b. run_if b parameter_stops role.bound) bounded)

  pub type_defaulted : (ts : Trees) → starts (is_punct COLON) ts ≡ false →
      type_after n row ts ≡ after row (optional_run EQUALS row ts) (λ d. pure (type n end d))
  type_defaulted ts e =
      ap (λ t. after row t (type_runs n)) (no_punct COLON role.separator row ts e)
      ∙ pure_then false (type_runs n) row ts

-- ## A parameter of this kind, without a default

module _ (s : List ℕ) (n : List ℕ) (b : Trees) where
  pub made_of : (k : ParameterKind) {name : Token} → TextOf s name n → ParameterOf s k name (parameter_made k n b)
  made_of kinds.Lifetime h = record { kind = refl; text = h }
  made_of kinds.Const h = record { kind = refl; text = h }
  made_of kinds.Type h = record { kind = refl; text = h }

  pub made_run : (k : ParameterKind) (x : Point) (m : RunPart) (r : Run) → ParameterRunAt s x b end m r →
      ParameterRunAt s x (bound_of_lem (parameter_made k n b)) (default_of (parameter_made k n b)) m r
  made_run kinds.Lifetime x m r h = h
  made_run kinds.Const x m r h = h
  made_run kinds.Type x m r h = h

-- ## A bound or a default, by the run after its separator

module _ (s : List ℕ) (x : Point) where
  pub bound-run : (m : RunPart) (r : Run) (b : Trees) →
      optional_run_shown s COLON run_parts.Bound x (Ok (m, r)) b → ParameterRunAt s x b end m r
  bound-run m r b h = go (starts (is_punct COLON) x.stream) refl
    where
      go : (t : Bool) → starts (is_punct COLON) x.stream ≡ t → ParameterRunAt s x b end m r
      go false e =
          let k = h.0 e in
          subst⁻¹ (λ (p : RunPart). ParameterRunAt s x b end p r) k.0 (e, k.1, refl)
      go true e =
          let k = h.1 e in
          subst⁻¹ (λ (p : RunPart). ParameterRunAt s x b end p r) k.0 (k.1, refl)

  default_run : starts (is_punct COLON) x.stream ≡ false → (m : RunPart) (r : Run) (d : Trees) →
      optional_run_shown s EQUALS run_parts.Default x (Ok (m, r)) d → ParameterRunAt s x end d m r
  default_run other m r d h = go (starts (is_punct EQUALS) x.stream) refl
    where
      go : (t : Bool) → starts (is_punct EQUALS) x.stream ≡ t → ParameterRunAt s x end d m r
      go false e =
          let k = h.0 e in
          subst⁻¹ (λ (p : RunPart). ParameterRunAt s x end d p r) k.0 (other, refl, k.1)
      go true e =
          let k = h.1 e in
          subst⁻¹ (λ (p : RunPart). ParameterRunAt s x end d p r) k.0 (other, refl, k.1)

  -- a type with this bound, and one with this default
  pub type-bound : (n : List ℕ) (r : Result (RunPart × Run) Refusal) (b : Trees) →
      optional_run_shown s COLON run_parts.Bound x r b → type_shown s x n r (type n b end)
  type-bound n (Ok (m, r)) b h = (refl, refl, bound-run m r b h)
  type-bound n (Err r) b h = h

  pub type_default : (n : List ℕ) → starts (is_punct COLON) x.stream ≡ false →
      (r : Result (RunPart × Run) Refusal) (d : Trees) →
      optional_run_shown s EQUALS run_parts.Default x r d → type_shown s x n r (type n end d)
  type_default n other (Ok (m, r)) d h = (refl, refl, default_run other m r d h)
  type_default n other (Err r) d h = h
