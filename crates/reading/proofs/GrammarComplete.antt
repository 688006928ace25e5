-- What the role grammar admits, the reader of that production takes, with the same roles: generics, bodies and the
-- item. So an assignment that obeys is the reading's own.
use mathlib.Core.Path.{◌≡◌, refl, ap, ◌∙◌, sym, subst}
use mathlib.Core.Bool.{Bool, true, false, ◌||◌, false≢true}
use mathlib.Core.List.{List, [], ◌∷◌, ◌++◌, append-nil}
use Prim.Native.Nat.{ℕ, ◌+◌}
use lib.Dec.{eqb}
use lib.ListN.{replicate}
use Rattle.token_list.specs.Byte.{BRACE, COLON, COMMA, EQUALS, GREATER, LESS, MINUS, PARENTHESIS, QUOTE, SEMICOLON}
use Rattle.token_list.specs.Text.{same}
use Rattle.token_list.specs.Row.{Row}
use Rattle.token_list.specs.Stream.{Trees, end, leaf, group, size}
use Rattle.token_list.proofs.Texts.{and_parts, chosen, passed_over}
use Rattle.reading.specs.Role as role
use Rattle.reading.specs.Token.{is_ident, is_literal, is_punct, is_word, starts, is_group, is_end, negatable, CONST}
use Rattle.reading.specs.Token.{WHERE, parameter_stops, field_stops, clause_stops}
use Rattle.reading.specs.Grammar as g
use Rattle.reading.specs.Grammar.{everything}
use Rattle.reading.specs.Declaration.{Visibility, Kind, Parameter, Generics, Constraints}
use Rattle.reading.specs.Declaration.{unconstrained, constrained, Field, Fields, Value, absent, Variant, Body}
use Rattle.reading.specs.Declaration.{Declaration, without, angled}
use Rattle.reading.specs.Took.{Took, took, Reader, onward, ◌>>=◌, pure}
use Rattle.reading.specs.Reading as r
use Rattle.reading.specs.Reading.{Maybe, done, one, every, more}
use Rattle.reading.proofs.Conserved as c
use Rattle.reading.proofs.SoundTokens.{kind_word}
use Rattle.reading.proofs.CompleteTokens.{Taken, Takes, Any, same_as, taken_as, onward-taken, and_then}
use Rattle.reading.proofs.CompleteTokens.{with_roles, pure_takes, and_pure, eqb-other, punct-other}
use Rattle.reading.proofs.CompleteTokens.{ident_no_punct, punct_no_literal, run_complete, attributes_complete}
use Rattle.reading.proofs.CompleteTokens.{visibility_complete, name_then, data_type_complete}

-- ## Marks and generics

punct_if-taken : {b : ℕ} {t : Bool} {ts us : Trees} {rs : List ℕ} → g.Separator everything b t ts us rs → (row : ℕ) →
    r.punct_if b role.separator row ts ≡ took t rs us
punct_if-taken {b} (g.Separator.present {q = q} e) row = chosen (is_punct b q) _ _ e
punct_if-taken {b} (g.Separator.absent {ts = ts} e) row = none ts e
  where
    none : (ts : Trees) → starts (is_punct b) ts ≡ false → r.punct_if b role.separator row ts ≡ took false [] ts
    none end e = refl
    none (leaf q us) e = passed_over (is_punct b q) _ _ e
    none (group d ts us) e = refl

pub punct_if_complete : {b : ℕ} {t : Bool} {ts us : Trees} {rs : List ℕ} → g.Separator everything b t ts us rs
    → Takes (λ x. x ≡ t) (r.punct_if b role.separator) ts us rs
punct_if_complete {t = t} {us = us} {rs = rs} h = record { from = λ row. taken_as t rs us refl (punct_if-taken h row) }

-- the mark stands or not, and what is read then
separator_then : {B : Type 0} {Q : B → Type 0} {f : Bool → Reader B} {b : ℕ} {t : Bool} {ts us vs : Trees}
    {rs qs : List ℕ} →
    g.Separator everything b t ts us rs
    → Takes Q (f t) us vs qs → Takes Q (r.punct_if b role.separator >>= f) ts vs (rs ++ qs)
separator_then {Q = Q} {f = f} {us = us} {vs = vs} {qs = qs} h k =
    and_then (punct_if_complete h) (λ x e. subst (λ (x : Bool). Takes Q (f x) us vs qs) (sym e) k)

optional_run_none : (b : ℕ) {ts : Trees} → starts (is_punct b) ts ≡ false → Takes Any (r.optional_run b) ts ts []
optional_run_none b {ts} e = separator_then {b = b} {t = false} {us = ts} (g.Separator.absent e)
    (pure_takes end ts tt)

optional_run_some : (b : ℕ) {c : Row} {us vs : Trees} {rs : List ℕ} → is_punct b c ≡ true →
    g.Run everything parameter_stops role.bound 0 false us vs rs
    → Takes Any (r.optional_run b) (leaf c us) vs (role.separator ∷ rs)
optional_run_some b {c} e h =
    separator_then {b = b} {t = true} (g.Separator.present {q = c} e) (run_complete parameter_stops role.bound h)

bound_complete : {ts us : Trees} {rs : List ℕ} → g.Bound everything ts us rs → Takes Any (r.optional_run COLON) ts us rs
bound_complete (g.Bound.none e) = optional_run_none COLON e
bound_complete (g.Bound.bound e h) = optional_run_some COLON e h

-- one more was read, or it was the last
abbrev Another : {A : Type 0} → Maybe A → Type 0
Another done = ⊥
Another (one a) = Unit {0}

abbrev Last : {A : Type 0} → Maybe A → Type 0
Last done = Unit {0}
Last (one a) = ⊥

comma_complete : {A : Type 0} {t : Bool} {us vs : Trees} {cs : List ℕ} (a : A) →
    g.Separator everything COMMA t us vs cs →
    Takes Another (r.comma a) us vs cs
comma_complete a m = and_pure (λ t. one a) (punct_if_complete m) (λ x e. tt)

-- the first row of a parameter
from_complete : {A : Type 0} {P : A → Type 0} {m : Reader A} {us vs : Trees} {rs : List ℕ} (n row : ℕ) →
    Takes P m us vs rs
    → Taken P (r.from n row us m) (n ∷ rs) vs
from_complete n row h = onward-taken (n ∷ []) (h.from (row + 1))

parameter_name_complete : (n k : ℕ) (p : Row) (us : Trees) → is_ident p ≡ true →
    Takes Any (r.parameter_name n k) (leaf p us) us (role.parameter-name ∷ [])
parameter_name_complete n k p us e =
    record { from = λ row. taken_as p.text (role.parameter-name ∷ []) us tt (chosen (is_ident p) _ _ e) }

type_chosen : (angle row : ℕ) (q : Row) (us : Trees) → is_word CONST q ≡ false → is_ident q ≡ true
    → r.parameter angle row (leaf q us) ≡ r.from role.parameter-name row us (r.type_after q.text >>= r.comma)
type_chosen angle row q us e f =
    passed_over (is_punct QUOTE q) _ _ (ident_no_punct QUOTE q f)
    ∙ passed_over (is_punct GREATER q) _ _ (ident_no_punct GREATER q f)
    ∙ passed_over (is_word CONST q) _ _ e
    ∙ chosen (is_ident q) _ _ f

lifetime_after_complete : (quote : ℕ) (p : Row) {us vs : Trees} {rs : List ℕ} → is_ident p ≡ true →
    g.Bound everything us vs rs
    → Takes Any (r.lifetime_after quote) (leaf p us) vs (role.parameter-name ∷ rs)
lifetime_after_complete quote p {us} f b =
    and_then (parameter_name_complete 24 quote p us f) (λ n y. and_pure (Parameter.lifetime n) (bound_complete b)
    (λ x y. tt))

constant_after_complete : (p : Row) {us vs : Trees} {rs : List ℕ} → is_ident p ≡ true → g.Bound everything us vs rs
    → Takes Any r.constant_after (leaf p us) vs (role.parameter-name ∷ rs)
constant_after_complete p {us} f b = and_then (parameter_name_complete 27 65535 p us f)
    (λ n y. and_pure (Parameter.constant n) (bound_complete b) (λ x y. tt))

module _ (n : List ℕ) where
  type_after_plain : {us : Trees} → starts (is_punct COLON) us ≡ false → starts (is_punct EQUALS) us ≡ false →
      Takes Any (r.type_after n) us us []
  type_after_plain {us} h k =
      separator_then {f = r.type_runs n} {b = COLON} {t = false} {us = us} (g.Separator.absent h)
      (and_pure (Parameter.type n end) (optional_run_none EQUALS k) (λ x y. tt))

  type_after_bounded : (c : Row) {us vs : Trees} {rs : List ℕ} → is_punct COLON c ≡ true →
      g.Run everything parameter_stops role.bound 0 false us vs rs
      → Takes Any (r.type_after n) (leaf c us) vs (role.separator ∷ rs)
  type_after_bounded c i h =
      separator_then {f = r.type_runs n} {b = COLON} {t = true} (g.Separator.present {q = c} i)
      (and_pure (λ b. Parameter.type n b end) (run_complete parameter_stops role.bound h) (λ x y. tt))

  type_after_defaulted : (c : Row) {us vs : Trees} {rs : List ℕ} → is_punct EQUALS c ≡ true →
      g.Run everything parameter_stops role.bound 0 false us vs rs
      → Takes Any (r.type_after n) (leaf c us) vs (role.separator ∷ rs)
  type_after_defaulted c {us} i h =
      separator_then {f = r.type_runs n} {b = COLON} {t = false} {us = leaf c us}
      (g.Separator.absent (punct-other EQUALS COLON c i refl))
      (and_pure (Parameter.type n end) (optional_run_some EQUALS {c = c} i h) (λ x y. tt))

and_comma : {A : Type 0} {t : Bool} {m : Reader A} {ts us vs : Trees} {rs cs : List ℕ} → Takes Any m ts us rs →
    g.Separator everything COMMA t us vs cs
    → Takes Another (m >>= r.comma) ts vs (rs ++ cs)
and_comma h k = and_then h (λ a y. comma_complete a k)

parameter_complete : {t : Bool} {ts us vs : Trees} {ps cs : List ℕ} (angle : ℕ) → g.Parameter everything ts us ps →
    g.Separator everything COMMA t us vs cs
    → (row : ℕ) → Taken Another (r.parameter angle row ts) (ps ++ cs) vs
parameter_complete angle (g.Parameter.lifetime {q = q} {p = p} e f u b) m row =
    same_as (chosen (is_punct QUOTE q) _ _ e) (from_complete role.parameter-name row
    (and_comma (lifetime_after_complete row p f b) m))
parameter_complete angle (g.Parameter.constant {q = q} {p = p} e f b u) m row =
    let i = (and_parts (is_ident q) (same q.text CONST) e).0 in
    same_as (passed_over (is_punct QUOTE q) _ _ (ident_no_punct QUOTE q i) ∙
    passed_over (is_punct GREATER q) _ _ (ident_no_punct GREATER q i) ∙ chosen (is_word CONST q) _ _ e)
    (from_complete role.parameter-name row (and_comma (constant_after_complete p f b) m))
parameter_complete angle (g.Parameter.plain {q = q} {us = us} e f h k) m row =
    same_as (type_chosen angle row q us e f) (from_complete role.parameter-name row
    (and_comma (type_after_plain q.text h k) m))
parameter_complete angle (g.Parameter.bounded {q = q} {c = c} {us = us} e f i h) m row =
    same_as (type_chosen angle row q (leaf c us) e f) (from_complete role.parameter-name row
    (and_comma (type_after_bounded q.text c i h) m))
parameter_complete angle (g.Parameter.defaulted {q = q} {c = c} {us = us} e f i h u) m row =
    same_as (type_chosen angle row q (leaf c us) e f) (from_complete role.parameter-name row
    (and_comma (type_after_defaulted q.text c i h) m))

-- ## Going round

module _ {A : Type 0} (m : Reader (Maybe A)) (rd : c.Rounding m) where
  every_last : {ts us : Trees} {rs : List ℕ} → Takes Last m ts us rs → Takes Any (every m) ts us rs
  every_last {ts} {us} {rs} h =
      with_roles (append-nil rs) (record {
        from = λ row. same_as (c.every-step m rd row ts) ((and_then
            {f = more (every m)} h go).from row);
      })
    where
      go : (x : Maybe A) → Last x → Takes Any (more (every m) x) us us []
      go done e = pure_takes [] us tt
      go (one a) e = absurd e

  every_next : {ts us vs : Trees} {rs qs : List ℕ} → Takes Another m ts us rs → Takes Any (every m) us vs qs →
      Takes Any (every m) ts vs (rs ++ qs)
  every_next {ts} {us} {vs} {rs} {qs} h k =
      record { from = λ row. same_as (c.every-step m rd row ts) ((and_then {f = more (every m)} h go).from row) }
    where
      go : (x : Maybe A) → Another x → Takes Any (more (every m) x) us vs qs
      go done e = absurd e
      go (one a) e = and_pure (λ xs. a ∷ xs) k (λ x y. tt)

pub parameters_complete : {ts us : Trees} {rs : List ℕ} (angle : ℕ) → g.Parameters everything ts us rs →
    Takes Any (every (r.parameter angle)) ts us rs
parameters_complete angle (g.Parameters.close {q = q} {us = us} e) =
    every_last (r.parameter angle) (c.parameter_round angle)
    (record {
      from = λ row. taken_as done (role.angle ∷ []) us tt (passed_over (is_punct QUOTE q) _ _
          (punct-other GREATER QUOTE q e refl) ∙ chosen (is_punct GREATER q) _ _ e);
    })
parameters_complete angle (g.Parameters.next h m x y k) =
    every_next (r.parameter angle) (c.parameter_round angle) (record { from = parameter_complete angle h m })
    (parameters_complete angle k)

pub generics_complete : {ts us : Trees} {rs : List ℕ} → g.Generics everything ts us rs → Takes Any r.generics ts us rs
generics_complete (g.Generics.none {ts = ts} e) = record { from = λ row. taken_as without [] ts tt (none ts e row) }
  where
    none : (ts : Trees) → starts (is_punct LESS) ts ≡ false → (row : ℕ) → r.generics row ts ≡ took without [] ts
    none end e row = refl
    none (group d ts us) e row = refl
    none (leaf q us) e row = passed_over (is_punct LESS q) _ _ e
generics_complete (g.Generics.generics {q = q} e h) = record {
  from = λ row. same_as (chosen (is_punct LESS q) _ _ e)
      (from_complete role.angle row (and_pure angled (parameters_complete row h) (λ x y. tt)));
}

pub clause_complete : {ts us : Trees} {rs : List ℕ} → g.Clause everything ts us rs → Takes Any r.clause ts us rs
clause_complete (g.Clause.none {ts = ts} e) = record { from = λ row. taken_as unconstrained [] ts tt (none ts e row) }
  where
    none : (ts : Trees) → starts (is_word WHERE) ts ≡ false → (row : ℕ) → r.clause row ts ≡ took unconstrained [] ts
    none end e row = refl
    none (group d ts us) e row = refl
    none (leaf q us) e row = passed_over (is_word WHERE q) _ _ e
clause_complete (g.Clause.clause {q = q} e h u) =
    record {
      from = λ row. same_as (chosen (is_word WHERE q) _ _ e) (from_complete role.where_word row
          (and_pure constrained (run_complete clause_stops role.where_run h) (λ x y. tt)));
    }

-- ## Fields

field_after_complete : (a : List Trees) (v : Visibility) (n : List ℕ) (c : Row) {t : Bool} {vs ws xs : Trees}
    {rs cs : List ℕ} → is_punct COLON c ≡ true
    → g.Run everything field_stops role.type 0 false vs ws rs
    → g.Separator everything COMMA t ws xs cs
    → Takes Another (r.field_after a v n) (leaf c vs) xs (role.separator ∷ (rs ++ cs))
field_after_complete a v n c {vs = vs} i j m =
    let made : Trees → Field = λ f. record { name = n; field = record { attributes = a; visibility = v; type = f } } in
    separator_then {f = λ t. r.must 23 t >>= λ u. r.run field_stops role.type >>= λ f. r.comma (made f)} {b = COLON}
    {t = true}
    {us = vs} (g.Separator.present {q = c} i)
    (and_then {m = r.must 23 true} (pure_takes {P = Any} tt vs tt)
    (λ z y. and_then (run_complete field_stops role.type j)
    (λ f y. comma_complete {A = Field} (made f) m)))

field_start_complete : (a : List Trees) (v : Visibility) (q c : Row) {t : Bool} {vs ws xs : Trees} {rs cs : List ℕ}
    → is_ident q ≡ true →
    is_punct COLON c ≡ true
    → g.Run everything field_stops role.type 0 false vs ws rs
    → g.Separator everything COMMA t ws xs cs → Takes Another (r.field_start a v) (leaf q (leaf c vs)) xs
    (role.field_name ∷ role.separator ∷ (rs ++ cs))
field_start_complete a v q c e i j m =
    record {
      from = λ row. same_as (chosen (is_ident q) _ _ e) (from_complete role.field_name row
          (field_after_complete a v q.text c i j m));
    }

named_field_complete : {ts us : Trees} {rs : List ℕ} → g.NamedField everything ts us rs →
    Takes Another r.named_field ts us rs
named_field_complete (g.NamedField.field {q = q} {c = c} a v e i j u m) =
    and_then (attributes_complete a) (λ x y. and_then (visibility_complete v)
    (λ z y. field_start_complete x z q c e i j m))

pub named_fields_complete : {ts : Trees} {rs : List ℕ} → g.NamedFields everything ts rs →
    Takes Any (every r.named_field) ts end rs
named_fields_complete (g.NamedFields.last {bs = bs} a v u) =
    every_last r.named_field c.named_field_round
    (and_then (attributes_complete a) (λ x y. with_roles (append-nil bs)
    (and_then (visibility_complete v) (λ x y. record { from = λ row. taken_as done [] end tt refl }))))
named_fields_complete (g.NamedFields.next h k) =
    every_next r.named_field c.named_field_round (named_field_complete h) (named_fields_complete k)

tuple_open : (ts : Trees) → is_end ts ≡ false → (row : ℕ) → r.tuple_field row ts ≡ r.tuple_type row ts
tuple_open end e row = absurd (false≢true (sym e))
tuple_open (leaf q us) e row = refl
tuple_open (group d ts us) e row = refl

tuple_type_complete : {ts us : Trees} {rs : List ℕ} → g.TupleField everything ts us rs →
    Takes Another r.tuple_type ts us rs
tuple_type_complete (g.TupleField.field a v j u m) =
    and_then (attributes_complete a) (λ x y. and_then (visibility_complete v)
    (λ x y. and_then (run_complete field_stops role.type j) (λ t y. comma_complete _ m)))

pub tuple_fields_complete : {ts : Trees} {rs : List ℕ} → g.TupleFields everything ts rs →
    Takes Any (every r.tuple_field) ts end rs
tuple_fields_complete g.TupleFields.last =
    every_last r.tuple_field c.tuple_field_round (record { from = λ row. taken_as done [] end tt refl })
tuple_fields_complete (g.TupleFields.next {ts = ts} e h k) =
    every_next r.tuple_field c.tuple_field_round (record {
      from = λ row. same_as (tuple_open ts e row) ((tuple_type_complete h).from row);
    }) (tuple_fields_complete k)

-- ## Variants and bodies

closing_complete : {A : Type 0} {P : A → Type 0} {t : Took A} {rs : List ℕ} (us : Trees) → Taken P t rs end
    → Taken P (r.closing us t) (role.delimiter ∷ rs ++ role.delimiter ∷ []) us
closing_complete us h = record { value = h.value; holds = h.holds; equal = ap (r.closing us) h.equal }

named_complete : {ts : Trees} {rs : List ℕ} → g.NamedFields everything ts rs → Takes Any r.named_fields ts end rs
named_complete h = and_pure Fields.named (named_fields_complete h) (λ x y. tt)

tuple_complete : {ts : Trees} {rs : List ℕ} → g.TupleFields everything ts rs → Takes Any r.tuple_fields ts end rs
tuple_complete h = and_pure Fields.tuple (tuple_fields_complete h) (λ x y. tt)

pub variant_fields_complete : {ts us : Trees} {rs : List ℕ} → g.VariantFields everything ts us rs →
    Takes Any r.variant_fields ts us rs
variant_fields_complete (g.VariantFields.none {ts = ts} e) = record {
  from = λ row. taken_as Fields.unit [] ts tt (none ts e row);
}
  where
    none : (ts : Trees) → is_group ts ≡ false → (row : ℕ) → r.variant_fields row ts ≡ took Fields.unit [] ts
    none end e row = refl
    none (leaf q us) e row = refl
    none (group d ts us) e row = absurd (false≢true (sym e))
variant_fields_complete (g.VariantFields.named {d = d} {us = us} e h) =
    record {
      from = λ row. same_as (chosen (eqb d BRACE) _ _ e)
          (closing_complete us ((named_complete h).from (row + 1)));
    }
variant_fields_complete (g.VariantFields.tuple {d = d} {us = us} e h) =
    record {
      from =
          λ row. same_as (passed_over (eqb d BRACE) _ _ (eqb-other d PARENTHESIS BRACE e refl) ∙
          chosen (eqb d PARENTHESIS) _ _ e)
          (closing_complete us ((tuple_complete h).from (row + 1)));
    }

value_taken : {ts us : Trees} {rs : List ℕ} → g.Value everything ts us rs → (row : ℕ) →
    Taken Any (r.value_if row ts) rs us
value_taken (g.Value.literal {e = e} {q = q} {us = us} a b) row =
    taken_as (Value.literal q.text) (role.separator ∷ role.value ∷ []) us tt
    (chosen (is_punct EQUALS e) _ _ a ∙ ap (onward (role.separator ∷ [])) (chosen (is_literal q) _ _ b))
value_taken (g.Value.negative {e = e} {m = m} {q = q} {us = us} a b k d) row =
    taken_as (Value.negative (r.worth q.text)) (role.separator ∷ role.value ∷ role.value ∷ []) us tt
    (chosen (is_punct EQUALS e) _ _ a
    ∙ ap (onward (role.separator ∷ []))
    (passed_over (is_literal m) _ _ (punct_no_literal MINUS m b)
    ∙ chosen (is_punct MINUS m) _ _ b
    ∙ ap (onward (role.value ∷ [])) (chosen (is_literal q) _ _ k ∙ chosen (negatable q.text) _ _ d)))

-- without a value: a `,` or the end of the group follows
no_value : {t : Bool} {ws xs : Trees} {cs : List ℕ} → g.Separator everything COMMA t ws xs cs
    → (t || is_end xs) ≡ true →
    (row : ℕ)
    → r.value_if row ws ≡ took absent [] ws
no_value (g.Separator.present {q = q} e) p row =
    passed_over (is_punct EQUALS q) _ _ (punct-other COMMA EQUALS q e refl) ∙
    chosen (is_punct COMMA q) _ _ e
no_value (g.Separator.absent {ts = ts} e) p row = at_end ts p
  where
    at_end : (ts : Trees) → is_end ts ≡ true → r.value_if row ts ≡ took absent [] ts
    at_end end p = refl
    at_end (leaf q us) p = absurd (false≢true p)
    at_end (group d ts us) p = absurd (false≢true p)

-- a variant's value and its `,`
abbrev value_comma : List Trees → List ℕ → Fields → Reader (Maybe Variant)
value_comma a n f = r.value_if >>= λ v. r.comma (record { attributes = a; name = n; fields = f; value = v })

value_comma_complete : {t : Bool} {ws xs ys : Trees} {es cs : List ℕ} (a : List Trees) (n : List ℕ) (f : Fields) →
    Takes Any r.value_if ws xs es → g.Separator everything COMMA t xs ys cs
    → Takes Another (value_comma a n f) ws ys (es ++ cs)
value_comma_complete a n f h m =
    and_then h (λ v y. comma_complete {A = Variant} (record { attributes = a; name = n; fields = f; value = v }) m)

variant_rest_complete : {vs ws ys : Trees} {fs es : List ℕ} (a : List Trees) (n : List ℕ) →
    g.VariantFields everything vs ws fs
    → ((f : Fields) → Takes Another (value_comma a n f) ws ys es) → Takes Another (c.variant_rest a n) vs ys (fs ++ es)
variant_rest_complete a n h k = and_then (variant_fields_complete h) (λ f y. k f)

variant_here_complete : {ts us : Trees} {rs : List ℕ} → g.Variant everything ts us rs →
    Takes Another r.variant_here ts us rs
variant_here_complete (g.Variant.plain {ws = ws} a b h m p) =
    and_then (attributes_complete a)
    (λ x y. name_then {f = c.variant_rest x} b
    (λ n. variant_rest_complete x n h (λ f. value_comma_complete x n f
    (record { from = λ row. taken_as absent [] ws tt (no_value m p row) }) m)))
variant_here_complete (g.Variant.valued a b h k m p q) =
    and_then (attributes_complete a) (λ x y. name_then {f = c.variant_rest x} b
    (λ n. variant_rest_complete x n h (λ f. value_comma_complete x n f (record { from = value_taken k }) m)))

variant_open : (ts : Trees) → is_end ts ≡ false → (row : ℕ) → r.variant row ts ≡ r.variant_here row ts
variant_open end e row = absurd (false≢true (sym e))
variant_open (leaf q us) e row = refl
variant_open (group d ts us) e row = refl

pub variants_complete : {ts : Trees} {rs : List ℕ} → g.Variants everything ts rs → Takes Any (every r.variant) ts end rs
variants_complete g.Variants.last =
    every_last r.variant c.variant_round (record { from = λ row. taken_as done [] end tt refl })
variants_complete (g.Variants.next {ts = ts} e h k) =
    every_next r.variant c.variant_round (record {
      from = λ row. same_as (variant_open ts e row) ((variant_here_complete
          h).from row);
    }) (variants_complete k)

pub struct_body_complete : {tuple : Bool} {ts us : Trees} {rs : List ℕ} → g.StructBody everything tuple ts us rs →
    Takes Any r.struct_body_lem ts us rs
struct_body_complete (g.StructBody.unit {q = q} {us = us} e) = record {
  from = λ row. taken_as (Body.fields Fields.unit) (role.delimiter ∷ []) us tt (chosen (is_punct SEMICOLON q) _ _ e);
}
struct_body_complete (g.StructBody.named {d = d} {us = us} e h) =
    record {
      from = λ row. same_as (chosen (eqb d BRACE) _ _ e) (closing_complete us
          ((and_pure Body.fields (named_complete h) (λ x y. tt)).from (row + 1)));
    }
struct_body_complete (g.StructBody.tuple {d = d} {us = us} e h) =
    record {
      from =
          λ row. same_as (passed_over (eqb d BRACE) _ _ (eqb-other d PARENTHESIS BRACE e refl) ∙
          chosen (eqb d PARENTHESIS) _ _ e)
          (closing_complete us ((and_pure Body.fields (tuple_complete h) (λ x y. tt)).from (row + 1)));
    }

pub enum_body_complete : {ts us : Trees} {rs : List ℕ} → g.EnumBody everything ts us rs → Takes Any r.enum_body ts us rs
enum_body_complete (g.EnumBody.unit {q = q} {us = us} a e) = record {
  from = λ row. taken_as (Body.variants []) (role.delimiter ∷ []) us tt (chosen (is_punct SEMICOLON q) _ _ e);
}
enum_body_complete (g.EnumBody.variants {us = us} u h) = record {
  from = λ row. closing_complete us ((and_pure Body.variants (variants_complete h) (λ x y. tt)).from (row + 1));
}

-- ## The item

-- what is read after the word and the name
abbrev declared : List Trees → Visibility → r.Head → Generics → Constraints → Body → Declaration
declared a v h p c b =
    record { attributes = a; visibility = v; kind = h.kind; name = h.name; generics = p; clause = c; body = b }

abbrev item_rest : List Trees → Visibility → r.Head → Reader Declaration
item_rest a v h = r.generics >>= λ p. r.clause >>= λ c. r.body_of h.kind >>= λ b. pure (declared a v h p c b)

item_then : {ts₀ ts₁ ts₂ ts₃ ts₄ ts₅ ts₆ : Trees} {ks bs cs ds es fs : List ℕ} (k : Kind) →
    g.Attributes everything ts₀ ts₁ ks
    → g.Visibility everything ts₁ ts₂ bs
    → g.Head everything (is_word (kind_word k)) ts₂ ts₃ cs → g.Generics everything ts₃ ts₄ ds →
    g.Clause everything ts₄ ts₅ es → Takes Any (r.body_of k) ts₅ ts₆ fs
    → Takes Any r.item ts₀ ts₆ (ks ++ (bs ++ (cs ++ (ds ++ (es ++ fs)))))
item_then {ts₃ = ts₃} {ts₅ = ts₅} {ts₆ = ts₆} {ds = ds} {es = es} {fs = fs} k a b c d e f =
    and_then (attributes_complete a) (λ x y. and_then (visibility_complete b)
    (λ z y. and_then {f = item_rest x z} (data_type_complete k c) (rest x z)))
  where
    rest : (a : List Trees) (v : Visibility) (h : r.Head) → h.kind ≡ k →
        Takes Any (item_rest a v h) ts₃ ts₆ (ds ++ (es ++ fs))
    rest a v h q =
        and_then (generics_complete d)
        (λ p y. and_then (clause_complete e)
        (λ c y. and_pure (declared a v h p c)
        (subst (λ (l : Kind). Takes Any (r.body_of l) ts₅ ts₆ fs) (sym q) f) (λ x y. tt)))

pub item_complete : {tuple : Bool} {ts us : Trees} {rs : List ℕ} → g.Item everything tuple ts us rs →
    Takes Any r.item ts us rs
item_complete (g.Item.struct a b c d e f) = item_then Kind.struct a b c d e (struct_body_complete f)
item_complete (g.Item.enum a b c d e f) = item_then Kind.enum a b c d e (enum_body_complete f)

-- an assignment that obeys is the reading's, with the rows after it left over
pub record Read (ts : Trees) (qs : List ℕ) : Type 0 where
  pub declaration : Declaration
  pub taken : List ℕ
  pub rest : Trees
  pub reading : r.item 0 ts ≡ took declaration taken rest
  pub roles : qs ≡ taken ++ replicate (size rest) role.left_over

pub obeys_complete : {ts : Trees} {qs : List ℕ} → g.Obeys everything ts qs → Read ts qs
obeys_complete (g.Obeys.obeys {us = us} {rs = rs} h l) = let t = (item_complete h).from 0 in record {
  declaration = t.value;
  taken = rs;
  rest = us;
  reading = t.equal;
  roles = refl;
}
