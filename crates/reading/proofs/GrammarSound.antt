-- What a reader takes, the role grammar admits, with the same roles: generics, bodies and the item.
use mathlib.Core.Path.{◌≡◌, refl, ap, ◌∙◌, sym, subst}
use mathlib.Core.Bool.{Bool, true, false, ◌||◌}
use mathlib.Core.List.{List, [], ◌∷◌, ◌++◌, append-nil}
use Prim.Native.Nat.{ℕ, zero, suc, ◌+◌}
use lib.Dec.{eqb}
use lib.ListN.{replicate}
use Rattle.token_list.specs.Byte.{BRACE, COLON, COMMA, EQUALS, GREATER, LESS, MINUS, PARENTHESIS, QUOTE, SEMICOLON}
use Rattle.token_list.specs.Row.{Row}
use Rattle.token_list.specs.Stream.{Trees, end, leaf, group, size}
use Rattle.reading.specs.Role as role
use Rattle.reading.specs.Token.{is_ident, is_literal, is_punct, is_word, starts, is_end, negatable, CONST, WHERE}
use Rattle.reading.specs.Token.{parameter_stops, field_stops, clause_stops}
use Rattle.reading.specs.Grammar as g
use Rattle.reading.specs.Grammar.{everything}
use Rattle.reading.specs.Declaration.{Visibility, Kind, struct, enum, Parameter, constrained, UnnamedField, Field}
use Rattle.reading.specs.Declaration.{Fields, Value, absent, Variant, Body, Declaration}
use Rattle.reading.specs.Took.{Took, took, Reader, onward, ◌>>=◌, pure}
use Rattle.reading.specs.Reading as r
use Rattle.reading.specs.Reading.{Maybe, done, one, Word, rounds, every, more}
use Rattle.reading.proofs.SoundTokens.{Sound, met, refused, met_by, choice, onward_met, onward_still, after_met}
use Rattle.reading.proofs.SoundTokens.{pure_met, run_sound, attributes_sound, visibility_sound, name_then}
use Rattle.reading.proofs.SoundTokens.{kind_word, data_type_sound}

-- ## Marks and generics

pub punct_if_sound : (b row : ℕ) (ts : Trees) → Sound (λ t rs us. g.Separator everything b t ts us rs)
    (r.punct_if b role.separator row ts)
punct_if_sound b row end = met [] end (g.Separator.absent refl)
punct_if_sound b row (leaf q us) = choice (is_punct b q) (λ e. met (role.separator ∷ []) us (g.Separator.present e))
    (λ e. met [] (leaf q us) (g.Separator.absent e))
punct_if_sound b row (group d ts us) = met [] (group d ts us) (g.Separator.absent refl)

-- a mark that may stand, with its run
pub data OptionalRun (b : ℕ) : Trees → List ℕ → Trees → Type 0 where
  none : {ts : Trees} → starts (is_punct b) ts ≡ false → OptionalRun b ts [] ts
  some : {c : Row} {us vs : Trees} {rs : List ℕ} → is_punct b c ≡ true →
      g.Run everything parameter_stops role.bound 0 false us vs rs
      → OptionalRun b (leaf c us) (role.separator ∷ rs) vs

weaken : {A : Type 0} {N M : A → List ℕ → Trees → Type 0} {t : Took A} → Sound N t →
    ((a : A) (rs : List ℕ) (us : Trees) → N a rs us → M a rs us) → Sound M t
weaken (met rs us h) k = met rs us (k _ rs us h)
weaken refused k = refused

optional_run_sound : (b row : ℕ) (ts : Trees) → Sound (λ x rs us. OptionalRun b ts rs us) (r.optional_run b row ts)
optional_run_sound b row ts = after_met row (punct_if_sound b row ts) go
  where
    go : {ts : Trees} (t : Bool) (rs : List ℕ) (us : Trees) → g.Separator everything b t ts us rs → (row : ℕ)
        → Sound (λ x qs vs. OptionalRun b ts (rs ++ qs) vs) (r.run_if t parameter_stops role.bound row us)
    go true rs us (g.Separator.present e) row =
        weaken (run_sound parameter_stops role.bound row us) (λ x qs vs h. some e h)
    go false rs us (g.Separator.absent e) row = met [] us (none e)

bound_of : {ts us : Trees} {rs : List ℕ} → OptionalRun COLON ts rs us → g.Bound everything ts us rs
bound_of (none e) = g.Bound.none e
bound_of (some e h) = g.Bound.bound e h

-- a `,` that may follow what P says
data Commaed {A : Type 0} (P : List ℕ → Trees → Type 0) : Maybe A → List ℕ → Trees → Type 0 where
  commaed : {t : Bool} {a : A} {us vs : Trees} {rs cs : List ℕ} → P rs us → g.Separator everything COMMA t us vs cs →
      Commaed P (one a) (rs ++ cs) vs

comma_sound : {A : Type 0} (P : List ℕ → Trees → Type 0) (a : A) (rs : List ℕ) (us : Trees) → P rs us → (row : ℕ)
    → Sound (λ m qs vs. Commaed P m (rs ++ qs) vs) (r.comma a row us)
comma_sound P a rs us h row =
    after_met row (punct_if_sound COMMA row us) (λ t cs vs m row. met [] vs (rw append-nil (commaed h m)))

data ParameterName : Trees → List ℕ → Trees → Type 0 where
  name : {p : Row} {us : Trees} → is_ident p ≡ true → ParameterName (leaf p us) (role.parameter-name ∷ []) us

parameter_name_sound : (n p row : ℕ) (ts : Trees) → Sound (λ x rs us. ParameterName ts rs us)
    (r.parameter_name n p row ts)
parameter_name_sound n p row end = refused
parameter_name_sound n p row (leaf q us) =
    choice (is_ident q) (λ e. met (role.parameter-name ∷ []) us (name e)) (λ e. refused)
parameter_name_sound n p row (group d ts us) = refused

module _ (q : Row) where
  abbrev Named : Trees → List ℕ → Trees → Type 0
  Named us rs vs = g.Parameter everything (leaf q us) vs (role.parameter-name ∷ rs)

  lifetime_sound : (quote row : ℕ) (us : Trees) → is_punct QUOTE q ≡ true →
      Sound (λ x rs vs. Named us rs vs) (r.lifetime_after quote row us)
  lifetime_sound quote row us e = after_met row (parameter_name_sound 24 quote row us) go
    where
      go : {us : Trees} (n rs : List ℕ) (vs : Trees) → ParameterName us rs vs → (row : ℕ)
          → Sound (λ x qs ws. Named us (rs ++ qs) ws)
          ((r.optional_run COLON >>= λ b. pure (Parameter.lifetime n b)) row vs)
      go n rs vs (name f) row =
          after_met row (optional_run_sound COLON row vs)
          (λ b qs ws h row. met [] ws (rw append-nil (g.Parameter.lifetime e f refl (bound_of h))))

  constant_sound : (row : ℕ) (us : Trees) → is_word CONST q ≡ true →
      Sound (λ x rs vs. Named us rs vs) (r.constant_after row us)
  constant_sound row us e = after_met row (parameter_name_sound 27 65535 row us) go
    where
      go : {us : Trees} (n rs : List ℕ) (vs : Trees) → ParameterName us rs vs → (row : ℕ)
          → Sound (λ x qs ws. Named us (rs ++ qs) ws)
          ((r.optional_run COLON >>= λ b. pure (Parameter.constant n b)) row vs)
      go n rs vs (name f) row =
          after_met row (optional_run_sound COLON row vs) (λ b qs ws h row. met [] ws
          (rw append-nil (g.Parameter.constant e f (bound_of h) refl)))

  type_sound : (row : ℕ) (us : Trees) (n : List ℕ) → is_word CONST q ≡ false → is_ident q ≡ true →
      Sound (λ x rs vs. Named us rs vs) (r.type_after n row us)
  type_sound row us n e f = after_met row (punct_if_sound COLON row us) go
    where
      default : {us : Trees} → starts (is_punct COLON) us ≡ false → (rs : List ℕ) (vs : Trees) →
          OptionalRun EQUALS us rs vs →
          Named us rs vs
      default a rs vs (none b) = g.Parameter.plain e f a b
      default a rs vs (some b h) = g.Parameter.defaulted e f b h refl

      go : {us : Trees} (t : Bool) (rs : List ℕ) (vs : Trees) → g.Separator everything COLON t us vs rs → (row : ℕ)
          → Sound (λ x qs ws. Named us (rs ++ qs) ws) (r.type_runs n t row vs)
      go true rs vs (g.Separator.present a) row =
          after_met row (run_sound parameter_stops role.bound row vs)
          (λ x qs ws h row. met [] ws (rw append-nil (g.Parameter.bounded e f a h)))
      go false rs vs (g.Separator.absent a) row =
          after_met row (optional_run_sound EQUALS row vs)
          (λ x qs ws h row. met [] ws (rw append-nil (default a qs ws h)))

data ParameterRead : Trees → Maybe Parameter → List ℕ → Trees → Type 0 where
  another : {t : Bool} {a : Parameter} {ts us vs : Trees} {ps cs : List ℕ} → g.Parameter everything ts us ps →
      g.Separator everything COMMA t us vs cs
      → ParameterRead ts (one a) (ps ++ cs) vs
  last : {q : Row} {us : Trees} → is_punct GREATER q ≡ true → ParameterRead (leaf q us) done (role.angle ∷ []) us

parameter_read : (angle row : ℕ) (ts : Trees) → Sound (ParameterRead ts) (r.parameter angle row ts)
parameter_read angle row end = refused
parameter_read angle row (group d ts us) = refused
parameter_read angle row (leaf q us) =
    choice (is_punct QUOTE q) (λ e. from (after_met (row + 1) (lifetime_sound q row (row + 1) us e)
    (comma_sound (Named q us))))
    (λ x. choice (is_punct GREATER q) (λ e. met (role.angle ∷ []) us (last e))
    (λ y. choice (is_word CONST q) (λ e. from (after_met (row + 1) (constant_sound q (row + 1) us e)
    (comma_sound (Named q us))))
    (λ e. choice (is_ident q) (λ f. from (after_met (row + 1) (type_sound q (row + 1) us q.text e f)
    (comma_sound (Named q us)))) (λ z. refused))))
  where
    one_more : (m : Maybe Parameter) (rs : List ℕ) (vs : Trees) → Commaed (Named q us) m rs vs →
        ParameterRead (leaf q us) m (role.parameter-name ∷ rs) vs
    one_more m rs vs (commaed h k) = another h k

    from : {t : Took (Maybe Parameter)} → Sound (Commaed (Named q us)) t →
        Sound (ParameterRead (leaf q us)) (onward (role.parameter-name ∷ []) t)
    from h = onward_met (role.parameter-name ∷ []) h one_more

-- ## Going round: N is what one round reads, L what they all do

module _ {A : Type 0} (m : Reader (Maybe A)) (N : Trees → Maybe A → List ℕ → Trees → Type 0)
    (L : Trees → List ℕ → Trees → Type 0)
    (sound : (row : ℕ) (ts : Trees) → Sound (N ts) (m row ts))
    (last : (ts : Trees) (rs : List ℕ) (us : Trees) → N ts done rs us → L ts rs us)
    (next : (ts us vs : Trees) (a : A) (rs qs : List ℕ) → N ts (one a) rs us → L us qs vs → L ts (rs ++ qs) vs) where
  rounds_sound : (n row : ℕ) (ts : Trees) → Sound (λ x rs us. L ts rs us) (rounds n m row ts)
  rounds_sound zero row ts = refused
  rounds_sound (suc n) row ts = after_met row (sound row ts) (go (rounds_sound n))
    where
      go : ((row : ℕ) (ts : Trees) → Sound (λ x rs us. L ts rs us) (rounds n m row ts)) →
          (x : Maybe A) (rs : List ℕ) (us : Trees) → N ts x rs us → (row : ℕ)
          → Sound (λ y qs vs. L ts (rs ++ qs) vs) (more (rounds n m) x row us)
      go ih done rs us h row = met [] us (rw append-nil (last ts rs us h))
      go ih (one a) rs us h row =
          after_met row (ih row us) (λ x qs vs k row. met [] vs (rw append-nil (next ts us vs a rs qs h k)))

  every_sound : (row : ℕ) (ts : Trees) → Sound (λ x rs us. L ts rs us) (every m row ts)
  every_sound row ts = rounds_sound (suc (size ts)) row ts

pub parameters_sound : (angle row : ℕ) (ts : Trees) → Sound (λ x rs us. g.Parameters everything ts us rs)
    (every (r.parameter angle) row ts)
parameters_sound angle = every_sound (r.parameter angle) ParameterRead (λ ts rs us. g.Parameters everything ts us rs)
    (parameter_read angle) final following
  where
    final : (ts : Trees) (rs : List ℕ) (us : Trees) → ParameterRead ts done rs us → g.Parameters everything ts us rs
    final ts rs us (last e) = g.Parameters.close e

    following : (ts us vs : Trees) (a : Parameter) (rs qs : List ℕ) → ParameterRead ts (one a) rs us →
        g.Parameters everything us vs qs
        → g.Parameters everything ts vs (rs ++ qs)
    following ts us vs a rs qs (another h m) k = g.Parameters.next h m refl refl k

pub generics_sound : (row : ℕ) (ts : Trees) → Sound (λ x rs us. g.Generics everything ts us rs) (r.generics row ts)
generics_sound row end = met [] end (g.Generics.none refl)
generics_sound row (group d ts us) = met [] (group d ts us) (g.Generics.none refl)
generics_sound row (leaf q us) =
    choice (is_punct LESS q)
    (λ e. onward_met (role.angle ∷ []) (after_met (row + 1) (parameters_sound row (row + 1) us)
    (λ x rs vs h row. met [] vs (rw append-nil h))) (λ x rs vs h. g.Generics.generics e h))
    (λ e. met [] (leaf q us) (g.Generics.none e))

pub clause_sound : (row : ℕ) (ts : Trees) → Sound (λ x rs us. g.Clause everything ts us rs) (r.clause row ts)
clause_sound row end = met [] end (g.Clause.none refl)
clause_sound row (group d ts us) = met [] (group d ts us) (g.Clause.none refl)
clause_sound row (leaf q us) =
    choice (is_word WHERE q) (λ e. onward_met (role.where_word ∷ [])
    (pure_met {P = λ rs vs. g.Run everything clause_stops role.where_run 0 false us vs rs} (row + 1) constrained
    (run_sound clause_stops role.where_run (row + 1) us))
    (λ x rs vs h. g.Clause.clause e h refl)) (λ e. met [] (leaf q us) (g.Clause.none e))

-- ## Fields

data FieldRead : Trees → Maybe Field → List ℕ → Trees → Type 0 where
  another : {a : Field} {ts us : Trees} {rs : List ℕ} → g.NamedField everything ts us rs → FieldRead ts (one a) rs us
  last : {ts us : Trees} {ks bs : List ℕ} → g.Attributes everything ts us ks → g.Visibility everything us end bs →
      FieldRead ts done (ks ++ bs) end

module _ (ts us : Trees) (ks : List ℕ) (h : g.Attributes everything ts us ks) where
  field_after_read : (bs : List ℕ) (q : Row) (vs : Trees) → g.Visibility everything us (leaf q vs) bs →
      is_ident q ≡ true → (a : List Trees) (v : Visibility) (n : List ℕ) (row : ℕ)
      → Sound (λ m qs ws. FieldRead ts m (ks ++ (bs ++ (role.field_name ∷ qs))) ws) (r.field_after a v n row vs)
  field_after_read bs q vs i e a v n row = after_met row (punct_if_sound COLON row vs) (go i)
    where
      go : {vs : Trees} → g.Visibility everything us (leaf q vs) bs → (t : Bool) (rs : List ℕ) (ws : Trees) →
          g.Separator everything COLON t vs ws rs → (row : ℕ)
          → Sound (λ m qs xs. FieldRead ts m (ks ++ (bs ++ (role.field_name ∷ (rs ++ qs)))) xs)
          ((r.must 23 t >>= λ u. r.run field_stops role.type >>= λ f. r.comma (record {
            name = n;
            field = record { attributes = a; visibility = v; type = f };
          })) row ws)
      go i true rs ws (g.Separator.present c) row =
          onward_still []
          (after_met (row + 0) (run_sound field_stops role.type (row + 0) ws)
          (λ f qs xs j row. after_met row (punct_if_sound COMMA row xs)
          (λ t cs ys m row. met [] ys (rw append-nil (another (g.NamedField.field h i e c j refl m))))))
      go i false rs ws m row = refused

  field_start_read : (bs : List ℕ) (vs : Trees) → g.Visibility everything us vs bs
      → (a : List Trees) (v : Visibility) (row : ℕ)
      → Sound (λ m qs ws. FieldRead ts m (ks ++ (bs ++ qs)) ws) (r.field_start a v row vs)
  field_start_read bs end i a v row = met {a = done} [] end (rw append-nil (last h i))
  field_start_read bs (group d vs ws) i a v row = refused
  field_start_read bs (leaf q vs) i a v row =
      choice (is_ident q)
      (λ e. onward_still (role.field_name ∷ []) (field_after_read bs q vs i e a v q.text (row + 1)))
      (λ e. refused)

named_field_read : (row : ℕ) (ts : Trees) → Sound (FieldRead ts) (r.named_field row ts)
named_field_read row ts =
    after_met row (attributes_sound row ts) (λ x ks us h row. after_met row (visibility_sound row us)
    (λ y bs vs i row. field_start_read ts us ks h bs vs i x y row))

pub named_fields_sound : (row : ℕ) (ts : Trees) → Sound (λ x rs us. g.NamedFields everything ts rs)
    (every r.named_field row ts)
named_fields_sound =
    every_sound r.named_field FieldRead (λ ts rs us. g.NamedFields everything ts rs) named_field_read final following
  where
    final : (ts : Trees) (rs : List ℕ) (us : Trees) → FieldRead ts done rs us → g.NamedFields everything ts rs
    final ts rs us (last h i) = g.NamedFields.last h i refl

    following : (ts us vs : Trees) (a : Field) (rs qs : List ℕ) → FieldRead ts (one a) rs us →
        g.NamedFields everything us qs
        → g.NamedFields everything ts (rs ++ qs)
    following ts us vs a rs qs (another h) k = g.NamedFields.next h k

data TypeRead : Trees → Maybe UnnamedField → List ℕ → Trees → Type 0 where
  another : {a : UnnamedField} {ts us : Trees} {rs : List ℕ} → is_end ts ≡ false → g.TupleField everything ts us rs →
      TypeRead ts (one a) rs us
  last : TypeRead end done [] end

tuple_type_read : (row : ℕ) (ts : Trees) → is_end ts ≡ false → Sound (TypeRead ts) (r.tuple_type row ts)
tuple_type_read row ts e =
    after_met row (attributes_sound row ts)
    (λ x ks us h row. after_met row (visibility_sound row us)
    (λ y bs vs i row. after_met row (run_sound field_stops role.type row vs)
    (λ z qs ws j row. after_met row (punct_if_sound COMMA row ws)
    (λ t cs ys m row. met [] ys (rw append-nil (another e (g.TupleField.field h i j refl m)))))))

tuple_field_read : (row : ℕ) (ts : Trees) → Sound (TypeRead ts) (r.tuple_field row ts)
tuple_field_read row end = met [] end last
tuple_field_read row (leaf q us) = tuple_type_read row (leaf q us) refl
tuple_field_read row (group d ts us) = tuple_type_read row (group d ts us) refl

pub tuple_fields_sound : (row : ℕ) (ts : Trees) → Sound (λ x rs us. g.TupleFields everything ts rs)
    (every r.tuple_field row ts)
tuple_fields_sound =
    every_sound r.tuple_field TypeRead (λ ts rs us. g.TupleFields everything ts rs) tuple_field_read final following
  where
    final : (ts : Trees) (rs : List ℕ) (us : Trees) → TypeRead ts done rs us → g.TupleFields everything ts rs
    final ts rs us last = g.TupleFields.last

    following : (ts us vs : Trees) (a : UnnamedField) (rs qs : List ℕ) → TypeRead ts (one a) rs us →
        g.TupleFields everything us qs → g.TupleFields everything ts (rs ++ qs)
    following ts us vs a rs qs (another e h) k = g.TupleFields.next e h k

-- ## Variants and bodies

closing_met : {A : Type 0} {P : List ℕ → Type 0} {M : List ℕ → Trees → Type 0} {t : Took A} (us : Trees) →
    Sound (λ x rs vs. P rs) t
    → ((rs : List ℕ) → P rs → M (role.delimiter ∷ rs ++ role.delimiter ∷ []) us) →
    Sound (λ x rs vs. M rs vs) (r.closing us t)
closing_met us (met rs vs h) k = met (role.delimiter ∷ rs ++ role.delimiter ∷ []) us (k rs h)
closing_met us refused k = refused

named-inside : (row : ℕ) (ts : Trees) → Sound (λ x rs us. g.NamedFields everything ts rs) (r.named_fields row ts)
named-inside row ts =
    pure_met {P = λ rs us. g.NamedFields everything ts rs} row Fields.named (named_fields_sound row ts)

tuple_inside : (row : ℕ) (ts : Trees) → Sound (λ x rs us. g.TupleFields everything ts rs) (r.tuple_fields row ts)
tuple_inside row ts =
    pure_met {P = λ rs us. g.TupleFields everything ts rs} row Fields.tuple (tuple_fields_sound row ts)

pub variant_fields_sound : (row : ℕ) (ts : Trees) → Sound (λ x rs us. g.VariantFields everything ts us rs)
    (r.variant_fields row ts)
variant_fields_sound row end = met [] end (g.VariantFields.none refl)
variant_fields_sound row (leaf q us) = met [] (leaf q us) (g.VariantFields.none refl)
variant_fields_sound row (group d ts us) =
    choice (eqb d BRACE)
    (λ e. closing_met {P = g.NamedFields everything ts} {M = λ rs vs. g.VariantFields everything (group d ts us) vs rs}
    us (named-inside (row + 1) ts) (λ rs h. g.VariantFields.named e h))
    (λ x. choice (eqb d PARENTHESIS)
    (λ e. closing_met {P = g.TupleFields everything ts} {M = λ rs vs. g.VariantFields everything (group d ts us) vs rs}
    us (tuple_inside (row + 1) ts) (λ rs h. g.VariantFields.tuple e h))
    (λ e. refused))

-- without a value a `,` or the end of the group follows
data ValueRead : Trees → Value → List ℕ → Trees → Type 0 where
  none : {ts : Trees} → (starts (is_punct COMMA) ts || is_end ts) ≡ true → ValueRead ts absent [] ts
  some : {v : Value} {ts us : Trees} {rs : List ℕ} → g.Value everything ts us rs → ValueRead ts v rs us

negative_value_read : (e m : Row) → is_punct EQUALS e ≡ true → is_punct MINUS m ≡ true → (row : ℕ) (ts : Trees)
    → Sound (λ v rs us. ValueRead (leaf e (leaf m ts)) v (role.separator ∷ role.value ∷ rs) us)
    (r.negative_value row ts)
negative_value_read e m a b row end = refused
negative_value_read e m a b row (group d ts us) = refused
negative_value_read e m a b row (leaf q us) =
    choice (is_literal q) (λ c. choice (negatable q.text)
    (λ d. met (role.value ∷ []) us (some (g.Value.negative a b c d))) (λ d. refused)) (λ c. refused)

discriminant_read : (e : Row) → is_punct EQUALS e ≡ true → (row : ℕ) (ts : Trees)
    → Sound (λ v rs us. ValueRead (leaf e ts) v (role.separator ∷ rs) us) (r.discriminant row ts)
discriminant_read e a row end = refused
discriminant_read e a row (group d ts us) = refused
discriminant_read e a row (leaf q us) =
    choice (is_literal q) (λ c. met (role.value ∷ []) us (some (g.Value.literal a c)))
    (λ c. choice (is_punct MINUS q) (λ b. onward_still (role.value ∷ []) (negative_value_read e q a b (row + 1) us))
    (λ b. refused))

value_if_read : (row : ℕ) (ts : Trees) → Sound (ValueRead ts) (r.value_if row ts)
value_if_read row end = met [] end (none refl)
value_if_read row (group d ts us) = refused
value_if_read row (leaf q us) =
    choice (is_punct EQUALS q) (λ e. onward_still (role.separator ∷ []) (discriminant_read q e (row + 1) us))
    (λ e. choice (is_punct COMMA q) (λ f. met [] (leaf q us) (none (ap (λ (b : Bool). b || false) f))) (λ f. refused))

data VariantRead : Trees → Maybe Variant → List ℕ → Trees → Type 0 where
  another : {a : Variant} {ts us : Trees} {rs : List ℕ} → is_end ts ≡ false → g.Variant everything ts us rs →
      VariantRead ts (one a) rs us
  last : VariantRead end done [] end

parted : {t : Bool} {ws xs : Trees} {cs : List ℕ} → g.Separator everything COMMA t ws xs cs →
    (starts (is_punct COMMA) ws || is_end ws) ≡ true → (t || is_end xs) ≡ true
parted (g.Separator.present e) p = refl
parted (g.Separator.absent {ts = ts} e) p = sym (ap (λ (b : Bool). b || is_end ts) e) ∙ p

variant_of : {t : Bool} {v : Value} {ts us vs ws xs ys : Trees} {ks bs fs es cs : List ℕ} →
    g.Attributes everything ts us ks
    → g.Word everything is_ident role.variant-name us vs bs
    → g.VariantFields everything vs ws fs → ValueRead ws v es xs → g.Separator everything COMMA t xs ys cs
    → g.Variant everything ts ys (ks ++ (bs ++ (fs ++ (es ++ cs))))
variant_of h i j (none p) m = g.Variant.plain h i j m (parted m p)
variant_of h i j (some k) m = g.Variant.valued h i j k m refl refl

variant_here_read : (row : ℕ) (ts : Trees) → is_end ts ≡ false → Sound (VariantRead ts) (r.variant_here row ts)
variant_here_read row ts e =
    after_met row (attributes_sound row ts)
    (λ x ks us h row. name_then role.variant-name row us
    (λ n bs vs i row. after_met row (variant_fields_sound row vs)
    (λ f fs ws j row. after_met row (value_if_read row ws)
    (λ v es xs k row. after_met row (punct_if_sound COMMA row xs)
    (λ t cs ys m row. met [] ys (rw append-nil (another e (variant_of h i j k m))))))))

variant_read : (row : ℕ) (ts : Trees) → Sound (VariantRead ts) (r.variant row ts)
variant_read row end = met [] end last
variant_read row (leaf q us) = variant_here_read row (leaf q us) refl
variant_read row (group d ts us) = variant_here_read row (group d ts us) refl

pub variants_sound : (row : ℕ) (ts : Trees) → Sound (λ x rs us. g.Variants everything ts rs) (every r.variant row ts)
variants_sound =
    every_sound r.variant VariantRead (λ ts rs us. g.Variants everything ts rs) variant_read final following
  where
    final : (ts : Trees) (rs : List ℕ) (us : Trees) → VariantRead ts done rs us → g.Variants everything ts rs
    final ts rs us last = g.Variants.last

    following : (ts us vs : Trees) (a : Variant) (rs qs : List ℕ) → VariantRead ts (one a) rs us →
        g.Variants everything us qs
        → g.Variants everything ts (rs ++ qs)
    following ts us vs a rs qs (another e h) k = g.Variants.next e h k

-- a body, and for a struct whether it is a tuple's
pub data BodyRead : Kind → Trees → Trees → List ℕ → Type 0 where
  of_struct : {tuple : Bool} {ts us : Trees} {rs : List ℕ} → g.StructBody everything tuple ts us rs →
      BodyRead Kind.struct ts us rs
  of_enum : {ts us : Trees} {rs : List ℕ} → g.EnumBody everything ts us rs → BodyRead Kind.enum ts us rs

struct_body_sound : (row : ℕ) (ts : Trees) → Sound (λ x rs us. BodyRead Kind.struct ts us rs) (r.struct_body_lem row ts)
struct_body_sound row end = refused
struct_body_sound row (leaf q us) =
    choice (is_punct SEMICOLON q) (λ e. met (role.delimiter ∷ []) us (of_struct (g.StructBody.unit e))) (λ e. refused)
struct_body_sound row (group d ts us) =
    choice (eqb d BRACE)
    (λ e. closing_met {P = g.NamedFields everything ts} {M = λ rs vs. BodyRead Kind.struct (group d ts us) vs rs} us
    (pure_met {P = λ rs us. g.NamedFields everything ts rs} (row + 1) Body.fields (named-inside (row + 1) ts))
    (λ rs h. of_struct (g.StructBody.named e h)))
    (λ x. choice (eqb d PARENTHESIS)
    (λ e. closing_met {P = g.TupleFields everything ts} {M = λ rs vs. BodyRead Kind.struct (group d ts us) vs rs} us
    (pure_met {P = λ rs us. g.TupleFields everything ts rs} (row + 1) Body.fields (tuple_inside (row + 1) ts))
    (λ rs h. of_struct (g.StructBody.tuple e h)))
    (λ e. refused))

enum_body_sound : (row : ℕ) (ts : Trees) → Sound (λ x rs us. BodyRead Kind.enum ts us rs) (r.enum_body row ts)
enum_body_sound row end = refused
enum_body_sound row (leaf q us) =
    choice (is_punct SEMICOLON q) (λ e. met (role.delimiter ∷ []) us (of_enum (g.EnumBody.unit refl e))) (λ e. refused)
enum_body_sound row (group d ts us) =
    closing_met {P = g.Variants everything ts} {M = λ rs vs. BodyRead Kind.enum (group d ts us) vs rs} us
    (pure_met {P = λ rs us. g.Variants everything ts rs} (row + 1) Body.variants (variants_sound (row + 1) ts))
    (λ rs h. of_enum (g.EnumBody.variants refl h))

pub body_of_sound : (k : Kind) (row : ℕ) (ts : Trees) → Sound (λ x rs us. BodyRead k ts us rs) (r.body_of k row ts)
body_of_sound struct = struct_body_sound
body_of_sound enum = enum_body_sound

-- ## The item

item_of : {ts₀ ts₁ ts₂ ts₃ ts₄ ts₅ ts₆ : Trees} {ks bs cs ds es fs : List ℕ} (k : Kind) →
    g.Attributes everything ts₀ ts₁ ks
    → g.Visibility everything ts₁ ts₂ bs
    → g.Head everything (is_word (kind_word k)) ts₂ ts₃ cs → g.Generics everything ts₃ ts₄ ds →
    g.Clause everything ts₄ ts₅ es → BodyRead k ts₅ ts₆ fs
    → (tuple : Bool) × g.Item everything tuple ts₀ ts₆ (ks ++ (bs ++ (cs ++ (ds ++ (es ++ fs)))))
item_of struct a b c d e (of_struct {tuple = tuple} f) = (tuple, g.Item.struct a b c d e f)
item_of enum a b c d e (of_enum f) = (false, g.Item.enum a b c d e f)

pub item_sound : (row : ℕ) (ts : Trees) → Sound (λ x rs us. (tuple : Bool) × g.Item everything tuple ts us rs)
    (r.item row ts)
item_sound row ts =
    after_met row (attributes_sound row ts)
    (λ x ks ts₁ a row. after_met row (visibility_sound row ts₁)
    (λ y bs ts₂ b row. after_met row (data_type_sound row ts₂)
    (λ h cs ts₃ c row. after_met row (generics_sound row ts₃)
    (λ p ds ts₄ d row. after_met row (clause_sound row ts₄)
    (λ w es ts₅ e row. after_met row (body_of_sound h.kind row ts₅)
    (λ z fs ts₆ f row. met [] ts₆ (rw append-nil (item_of h.kind a b c d e f))))))))

-- what the reader of declarations takes obeys, with the rows after it left over
pub obeys_sound : {ts us : Trees} {d : Declaration} {rs : List ℕ} → r.item 0 ts ≡ took d rs us
    → g.Obeys everything ts (rs ++ replicate (size us) role.left_over)
obeys_sound {ts} {us} e =
    let i = met_by (subst (Sound (λ x rs us. (tuple : Bool) × g.Item everything tuple ts us rs)) e
    (item_sound 0 ts)) in g.Obeys.obeys i.1 (g.LeftOver.rows refl)
