-- Every reader reads a stream without marks as the stream itself, up to the marks in what it tells and leaves: the
-- reading does not look at joint marks.
use mathlib.Core.Path.{◌≡◌, refl, ap, ◌∙◌, subst⁻¹}
use mathlib.Core.Bool.{Bool, true, false, cond, ◌&&◌}
use mathlib.Core.List.{List, [], ◌∷◌, ◌++◌, map}
use Prim.Native.Nat.{ℕ, zero, suc, ◌+◌, ◌-◌}
use lib.Dec.{eqb}
use lib.ListN.{length, replicate}
use Rattle.token_list.specs.Byte.{HASH, QUOTE, COMMA, MINUS, COLON, SEMICOLON, LESS, EQUALS, GREATER}
use Rattle.token_list.specs.Byte.{PARENTHESIS, BRACKET, BRACE}
use Rattle.token_list.specs.Text.{same}
use Rattle.token_list.specs.Row.{Row}
use Rattle.token_list.specs.Check.{END}
use Rattle.token_list.specs.Stream.{Trees, end, leaf, group, size}
use Rattle.token_list.specs.Marks.{unmarked_row, unmarked}
use Rattle.token_list.proofs.Marks.{size-unmarked}
use Rattle.reading.specs.Role as role
use Rattle.reading.specs.Declaration.{Visibility, Kind, struct, enum, Fields, Parameter, Generics, Constraints, Value}
use Rattle.reading.specs.Took.{Took, took, stopped, Reader, onward, after, ◌>>=◌, pure, wrong, refuse}
use Rattle.reading.specs.Reading as r
use Rattle.reading.specs.Reading.{Maybe, done, one, Word, missing, found, Stops, RunEnd, Verdict, belongs, ends}
use Rattle.reading.specs.Reading.{unopened, rounds, every, more}
use Rattle.reading.specs.Marks.{unmarked_visibility, unmarked_parameter, unmarked_generics, unmarked_constraints}
use Rattle.reading.specs.Marks.{unmarked_unnamed_field, unmarked_field, unmarked_fields, unmarked_variant}
use Rattle.reading.specs.Marks.{unmarked_body, unmarked_declaration, unmarked_took}

-- ## Tokens and streams

-- of a test that does not look at marks
lone-unmarked : (p : Row → Bool) → ((q : Row) → p (unmarked_row q) ≡ p q) → (ts : Trees) →
    r.lone p (unmarked ts) ≡ r.lone p ts
lone-unmarked p e end = refl
lone-unmarked p e (group d ts us) = refl
lone-unmarked p e (leaf q end) = e q
lone-unmarked p e (leaf q (leaf s us)) = refl
lone-unmarked p e (leaf q (group d ts us)) = refl

scoped-unmarked : (ts : Trees) → r.scoped (unmarked ts) ≡ r.scoped ts
scoped-unmarked end = refl
scoped-unmarked (leaf q us) = refl
scoped-unmarked (group d ts us) = refl

first_text-unmarked : (ts : Trees) → r.first_text (unmarked ts) ≡ r.first_text ts
first_text-unmarked end = refl
first_text-unmarked (leaf q us) = refl
first_text-unmarked (group d ts us) = refl

first_rows-unmarked : (ts : Trees) (n : ℕ) → r.first_rows (unmarked ts) n ≡ unmarked (r.first_rows ts n)
first_rows-unmarked end n = refl
first_rows-unmarked (leaf q us) zero = refl
first_rows-unmarked (leaf q us) (suc n) = ap (leaf (unmarked_row q)) (first_rows-unmarked us n)
first_rows-unmarked (group d ts us) zero = refl
first_rows-unmarked (group d ts us) (suc n) =
    ap (λ (k : ℕ). group d (unmarked ts) (r.first_rows (unmarked us) (n - (1 + k)))) (size-unmarked ts) ∙
    ap (group d (unmarked ts)) (first_rows-unmarked us (n - (1 + size ts)))

-- ## Readers

-- what is told of a stream, and of that stream without marks; the value by f
pub record Alike {A B : Type 0} (f : A → B) (t : Took A) (u : Took B) : Type 0 where
  pub path : u ≡ unmarked_took f t

abbrev pub AlikeReaders : {A B : Type 0} → (A → B) → Reader A → Reader B → Type 0
AlikeReaders f m n = (row : ℕ) (ts : Trees) → Alike f (m row ts) (n row (unmarked ts))

abbrev pub Unmarking : {A : Type 0} → (A → A) → Reader A → Type 0
Unmarking f m = AlikeReaders f m m

-- a value that holds no tokens, and one that may be there
abbrev pub unchanged : {A : Type 0} → A → A
unchanged a = a

abbrev pub maybe : {A B : Type 0} → (A → B) → Maybe A → Maybe B
maybe f done = done
maybe f (one a) = one (f a)

-- where both compute
pub at_once : {A B : Type 0} {f : A → B} {t : Took A} → Alike f t (unmarked_took f t)
at_once = record { path = refl }

-- by a test, which is the same without marks
choice : {A B : Type 0} {f : A → B} {t u : Took A} {v w : Took B} (x : Bool) → Alike f t v → Alike f u w →
    Alike f (cond x t u) (cond x v w)
choice true p q = p
choice false p q = q

choice_by : {A B : Type 0} {f : A → B} {t u : Took A} {v w : Took B} {x y : Bool} → y ≡ x → Alike f t v → Alike f u w →
    Alike f (cond x t u) (cond y v w)
choice_by {x = x} e p q = rw e (choice x p q)

onward_alike : {A B : Type 0} {f : A → B} {t : Took A} {u : Took B} (rs : List ℕ) → Alike f t u →
    Alike f (onward rs t) (onward rs u)
onward_alike {A} {B} {f} {t} rs e = record { path = ap (onward rs) e.path ∙ go t }
  where
    go : (t : Took A) → onward rs (unmarked_took f t) ≡ unmarked_took f (onward rs t)
    go (took a qs us) = refl
    go (stopped w n p) = refl

after_alike : {A B C D : Type 0} {f : A → B} {g : C → D} {t : Took A} {u : Took B} {k : A → Reader C} (l : B → Reader D)
    (row : ℕ) → Alike f t u → ((a : A) → AlikeReaders g (k a) (l (f a))) →
    Alike g (after row t k) (after row u l)
after_alike {A} {B} {C} {D} {f} {g} {t} {u} {k} l row e h =
    record { path = ap (λ (x : Took B). after row x l) e.path ∙ (go t).path }
  where
    go : (t : Took A) → Alike g (after row t k) (after row (unmarked_took f t) l)
    go (took a rs us) = onward_alike _ (h a (row + length rs) us)
    go (stopped w n p) = at_once

-- The second reader's continuation has the values without marks; antt finds it at each use.
pub bind : {A B C : Type 0} {f : A → A} {g : B → C} {m : Reader A} {k : A → Reader B} (l : A → Reader C) →
    Unmarking f m → ((a : A) → AlikeReaders g (k a) (l (f a))) → AlikeReaders g (m >>= k) (m >>= l)
bind l e h row ts = after_alike l row (e row ts) h

-- ## Going round

module _ {A : Type 0} {f : A → A} {m : Reader (Maybe A)} (e : Unmarking (maybe f) m) where
  rounds_unmarking : (n : ℕ) → Unmarking (map f) (rounds n m)
  rounds_unmarking zero row ts = at_once
  rounds_unmarking (suc n) row ts = after_alike _ row (e row ts) (go (rounds_unmarking n))
    where
      go : Unmarking (map f) (rounds n m) → (a : Maybe A) → AlikeReaders (map f) (more (rounds n m) a)
          (more (rounds n m) (maybe f a))
      go h done row us = at_once
      go h (one a) row us = bind _ h (λ xs row us. at_once) row us

  every_unmarking : Unmarking (map f) (every m)
  every_unmarking row ts =
      subst⁻¹ (λ (n : ℕ). Alike (map f) (every m row ts) (rounds (suc n) m row (unmarked ts))) (size-unmarked ts)
      (rounds_unmarking (suc (size ts)) row ts)

-- ## Words, punctuation and runs

wrong_alike : {A : Type 0} (f : A → A) (n : ℕ) → Unmarking f (wrong n)
wrong_alike f n row end = at_once
wrong_alike f n row (leaf q us) = at_once
wrong_alike f n row (group d ts us) = at_once

copied-unmarked : (n : ℕ) (ts : Trees) → r.copied n (unmarked ts) ≡ r.copied n ts
copied-unmarked n ts = ap (λ (k : ℕ). replicate (1 + k + 1) n) (size-unmarked ts)

pub word_unmarking : (n : ℕ) → Unmarking unchanged (r.word n)
word_unmarking n row end = at_once
word_unmarking n row (leaf q us) = choice (r.is_ident q) at_once at_once
word_unmarking n row (group d ts us) =
    choice_by (lone-unmarked r.is_ident (λ q. refl) ts)
    (record { path = λ i. took (found (first_text-unmarked ts i) (row + 1)) (copied-unmarked n ts i) (unmarked us) })
    at_once

punct_if_unmarking : (b n : ℕ) → Unmarking unchanged (r.punct_if b n)
punct_if_unmarking b n row end = at_once
punct_if_unmarking b n row (leaf q us) = choice (r.is_punct b q) at_once at_once
punct_if_unmarking b n row (group d ts us) = at_once

-- past the rows rs and a group, all of whose rows have the role n
past_group : {A B : Type 0} {f : A → B} {t : Took A} (l : Reader B) (rs : List ℕ) (n row : ℕ) (ts us : Trees)
    → Alike f t (l (row + r.group_size ts) (unmarked us))
    → Alike f (onward (rs ++ r.copied n ts) t)
    (onward (rs ++ r.copied n (unmarked ts)) (l (row + r.group_size (unmarked ts)) (unmarked us)))
past_group {f = f} {t = t} l rs n row ts us e =
    subst⁻¹ (λ (k : ℕ). Alike f (onward (rs ++ r.copied n ts) t)
    (onward (rs ++ replicate (1 + k + 1) n) (l (row + (1 + k + 1)) (unmarked us)))) (size-unmarked ts)
    (onward_alike _ e)

judged_alike : (depth : ℕ) (v : Verdict) {go og : ℕ → Bool → Took RunEnd} (ts : Trees) (row : ℕ)
    → ((e : ℕ) (m : Bool) → Alike unchanged (go e m) (og e m))
    → Alike unchanged (r.judged depth v go ts row) (r.judged depth v og (unmarked ts) row)
judged_alike depth (belongs e m) ts row h = h e m
judged_alike depth (ends e) ts row h = at_once
judged_alike depth unopened ts row h = at_once

run_from_unmarking : (st : Stops) (n depth : ℕ) (minus : Bool) → Unmarking unchanged (r.run_from st n depth minus)
run_from_unmarking st n depth minus row end = at_once
run_from_unmarking st n depth minus row (leaf q us) =
    judged_alike depth (r.judge st depth minus q) (leaf q us) row
    (λ e m. onward_alike (n ∷ []) (run_from_unmarking st n e m (row + 1) us))
run_from_unmarking st n depth minus row (group d ts us) =
    choice (r.stopping st depth d) at_once
    (past_group (r.run_from st n depth false) [] n row ts us
    (run_from_unmarking st n depth false (row + r.group_size ts) us))

pub run_unmarking : (st : Stops) (n : ℕ) → Unmarking unmarked (r.run st n)
run_unmarking st n row ts =
    let e = (run_from_unmarking st n 0 false row ts).path in
    record { path = ap (r.kept (unmarked ts)) e ∙ go (r.run_from st n 0 false row ts) }
  where
    go : (t : Took RunEnd) → r.kept (unmarked ts) (unmarked_took unchanged t) ≡ unmarked_took unmarked (r.kept ts t)
    go (took e rs us) = ap (λ (vs : Trees). took vs rs (unmarked us)) (first_rows-unmarked ts (length rs))
    go (stopped w m p) = refl

run_if_unmarking : (t : Bool) (st : Stops) (n : ℕ) → Unmarking unmarked (r.run_if t st n)
run_if_unmarking true st n row ts = run_unmarking st n row ts
run_if_unmarking false st n row ts = at_once

-- ## Attributes, visibility and the item's word

mutual
  pub attributes_unmarking : Unmarking (map unmarked) r.attributes
  attributes_unmarking row end = at_once
  attributes_unmarking row (group d ts us) = at_once
  attributes_unmarking row (leaf q us) = choice (r.is_punct HASH q) (after_hash_unmarking row us) at_once

  after_hash_unmarking : Unmarking (map unmarked) r.after_hash
  after_hash_unmarking row end = at_once
  after_hash_unmarking row (group d ts us) =
      let there = row + 1 + r.group_size ts in
      choice (eqb d BRACKET)
      (past_group (r.attributes >>= λ xs. pure (unmarked ts ∷ xs)) (role.attribute_mark ∷ []) role.attribute_group
      (row + 1) ts us (after_alike _ there (attributes_unmarking there us) (λ xs row vs. at_once)))
      at_once
  after_hash_unmarking row (leaf q us) =
      choice {u = refuse 13 (row + 1)} (r.is_punct HASH q)
      (onward_alike (role.idle_mark ∷ []) (after_hash_unmarking (row + 1) us)) at_once

any_scope_unmarking : Unmarking unmarked_visibility r.any_scope
any_scope_unmarking row end = at_once
any_scope_unmarking row (leaf q us) = at_once
any_scope_unmarking row (group d ts us) = record {
  path = λ i. took (Visibility.restricted d (unmarked ts)) (copied-unmarked role.scope ts i) (unmarked us);
}

scope_after_unmarking : Unmarking unmarked_visibility r.scope_after
scope_after_unmarking row end = at_once
scope_after_unmarking row (leaf q us) = at_once
scope_after_unmarking row (group d ts us) = choice_by (ap (λ (b : Bool). eqb d PARENTHESIS && b) (scoped-unmarked ts))
    (any_scope_unmarking row (group d ts us)) at_once

pub visibility_unmarking : Unmarking unmarked_visibility r.visibility
visibility_unmarking row end = at_once
visibility_unmarking row (leaf q us) =
    choice {u = took Visibility.default [] (leaf q us)} (r.is_word r.PUB q)
    (onward_alike (role.visibility ∷ []) (scope_after_unmarking (row + 1) us)) at_once
visibility_unmarking row (group d ts us) = choice_by (lone-unmarked (r.is_word r.PUB) (λ q. refl) ts)
    (past_group r.any_scope [] role.visibility row ts us (any_scope_unmarking (row + r.group_size ts) us)) at_once

pub named!_unmarking : (w : Word) → Unmarking unchanged (r.named! w)
named!_unmarking missing row ts = wrong_alike unchanged 11 row ts
named!_unmarking (found t p) row ts = at_once

pub named_kind_unmarking : (w : Word) → Unmarking unchanged (r.named_kind w)
named_kind_unmarking missing row ts = wrong_alike unchanged 11 row ts
named_kind_unmarking (found t p) row ts = go (same t r.STRUCT) (same t r.ENUM) row ts
  where
    go : (x y : Bool) → Unmarking unchanged (cond x (pure struct) (cond y (pure enum) (λ row ts. refuse 25 p)))
    go true y row ts = at_once
    go false true row ts = at_once
    go false false row ts = at_once

pub data_type_unmarking : Unmarking unchanged r.data_type
data_type_unmarking =
    bind _ (word_unmarking role.item-word) (λ w. bind _ (named_kind_unmarking w)
    (λ k. bind _ (word_unmarking role.item-name) (λ v. bind _ (named!_unmarking v) (λ n row ts. at_once))))

-- ## Parameters

parameter_name_unmarking : (n p : ℕ) → Unmarking unchanged (r.parameter_name n p)
parameter_name_unmarking n p row end = at_once
parameter_name_unmarking n p row (leaf q us) = choice (r.is_ident q) at_once at_once
parameter_name_unmarking n p row (group d ts us) = at_once

optional_run_unmarking : (b : ℕ) → Unmarking unmarked (r.optional_run b)
optional_run_unmarking b =
    bind _ (punct_if_unmarking b role.separator) (λ t. run_if_unmarking t r.parameter_stops role.bound)

type_runs_unmarking : (n : List ℕ) (t : Bool) → Unmarking unmarked_parameter (r.type_runs n t)
type_runs_unmarking n true = bind _ (run_unmarking r.parameter_stops role.bound) (λ b row ts. at_once)
type_runs_unmarking n false = bind _ (optional_run_unmarking EQUALS) (λ b row ts. at_once)

comma_alike : {A B : Type 0} (f : A → B) (a : A) → AlikeReaders (maybe f) (r.comma a) (r.comma (f a))
comma_alike f a = bind _ (punct_if_unmarking COMMA role.separator) (λ t row ts. at_once)

parameter_unmarking : (angle : ℕ) → Unmarking (maybe unmarked_parameter) (r.parameter angle)
parameter_unmarking angle row end = at_once
parameter_unmarking angle row (group d ts us) = at_once
parameter_unmarking angle row (leaf q us) =
    choice (r.is_punct QUOTE q) (with_comma lifetime_after)
    (choice {t = took done (role.angle ∷ []) us} (r.is_punct GREATER q) at_once
    (choice (r.is_word r.CONST q) (with_comma constant_after)
    (choice {u = refuse 14 row} (r.is_ident q) (with_comma type_after) at_once)))
  where
    with_comma : {m : Reader Parameter} → Unmarking unmarked_parameter m
        → Alike (maybe unmarked_parameter) (r.from role.parameter-name row us (m >>= r.comma))
        (r.from role.parameter-name row (unmarked us) (m >>= r.comma))
    with_comma e =
        onward_alike (role.parameter-name ∷ []) (bind r.comma e (comma_alike unmarked_parameter) (row + 1) us)

    lifetime_after : Unmarking unmarked_parameter (r.lifetime_after row)
    lifetime_after =
        bind _ (parameter_name_unmarking 24 row) (λ n. bind _ (optional_run_unmarking COLON) (λ b row ts. at_once))

    constant_after : Unmarking unmarked_parameter r.constant_after
    constant_after =
        bind _ (parameter_name_unmarking 27 END) (λ n. bind _ (optional_run_unmarking COLON) (λ b row ts. at_once))

    type_after : Unmarking unmarked_parameter (r.type_after q.text)
    type_after = bind _ (punct_if_unmarking COLON role.separator) (type_runs_unmarking q.text)

pub generics_unmarking : Unmarking unmarked_generics r.generics
generics_unmarking row end = at_once
generics_unmarking row (group d ts us) = at_once
generics_unmarking row (leaf q us) =
    choice {u = took Generics.without [] (leaf q us)} (r.is_punct LESS q)
    (onward_alike (role.angle ∷ [])
    (bind _ (every_unmarking (parameter_unmarking row)) (λ ps row ts. at_once) (row + 1) us))
    at_once

pub clause_unmarking : Unmarking unmarked_constraints r.clause
clause_unmarking row end = at_once
clause_unmarking row (group d ts us) = at_once
clause_unmarking row (leaf q us) = choice {u = took Constraints.unconstrained [] (leaf q us)} (r.is_word r.WHERE q)
    (onward_alike (role.where_word ∷ [])
    (bind _ (run_unmarking r.clause_stops role.where_run) (λ c row ts. at_once) (row + 1) us)) at_once

-- ## Fields

must_unmarking : (n : ℕ) (t : Bool) → Unmarking unchanged (r.must n t)
must_unmarking n true row ts = at_once
must_unmarking n false row ts = wrong_alike unchanged n row ts

field_after_alike : (a : List Trees) (v : Visibility) (n : List ℕ) → AlikeReaders (maybe unmarked_field)
    (r.field_after a v n) (r.field_after (map unmarked a) (unmarked_visibility v) n)
field_after_alike a v n =
    bind _ (punct_if_unmarking COLON role.separator) (λ t. bind _ (must_unmarking 23 t)
    (λ u. bind _ (run_unmarking r.field_stops role.type) (λ f. comma_alike unmarked_field _)))

field_start_alike : (a : List Trees) (v : Visibility) → AlikeReaders (maybe unmarked_field)
    (r.field_start a v) (r.field_start (map unmarked a) (unmarked_visibility v))
field_start_alike a v row end = at_once
field_start_alike a v row (group d ts us) = at_once
field_start_alike a v row (leaf q us) =
    choice {u = refuse 22 row} (r.is_ident q)
    (onward_alike (role.field_name ∷ []) (field_after_alike a v q.text (row + 1) us)) at_once

named_field_unmarking : Unmarking (maybe unmarked_field) r.named_field
named_field_unmarking = bind _ attributes_unmarking (λ a. bind _ visibility_unmarking (λ v. field_start_alike a v))

tuple_type_unmarking : Unmarking (maybe unmarked_unnamed_field) r.tuple_type
tuple_type_unmarking =
    bind _ attributes_unmarking (λ a. bind _ visibility_unmarking
    (λ v. bind _ (run_unmarking r.field_stops role.type) (λ t. comma_alike unmarked_unnamed_field _)))

tuple_field_unmarking : Unmarking (maybe unmarked_unnamed_field) r.tuple_field
tuple_field_unmarking row end = at_once
tuple_field_unmarking row (leaf q us) = tuple_type_unmarking row (leaf q us)
tuple_field_unmarking row (group d ts us) = tuple_type_unmarking row (group d ts us)

named_fields_unmarking : Unmarking unmarked_fields r.named_fields
named_fields_unmarking = bind _ (every_unmarking named_field_unmarking) (λ fs row ts. at_once)

tuple_fields_unmarking : Unmarking unmarked_fields r.tuple_fields
tuple_fields_unmarking = bind _ (every_unmarking tuple_field_unmarking) (λ fs row ts. at_once)

-- the inside of a group, and what stands after it
enclosed_alike : {A : Type 0} {f : A → A} {m : Reader A} → Unmarking f m → (row : ℕ) (ts us : Trees) →
    Alike f (r.enclosed m row ts us) (r.enclosed m row (unmarked ts) (unmarked us))
enclosed_alike {A} {f} {m} e row ts us =
    record { path = ap (r.closing (unmarked us)) (e (row + 1) ts).path ∙ go (m (row + 1) ts) }
  where
    go : (t : Took A) → r.closing (unmarked us) (unmarked_took f t) ≡ unmarked_took f (r.closing us t)
    go (took a rs vs) = refl
    go (stopped w n p) = refl

-- ## Variants and bodies

pub variant_fields_unmarking : Unmarking unmarked_fields r.variant_fields
variant_fields_unmarking row end = at_once
variant_fields_unmarking row (leaf q us) = at_once
variant_fields_unmarking row (group d ts us) =
    choice (eqb d BRACE) (enclosed_alike named_fields_unmarking row ts us)
    (choice (eqb d PARENTHESIS) (enclosed_alike tuple_fields_unmarking row ts us) at_once)

negative_value_unmarking : Unmarking unchanged r.negative_value
negative_value_unmarking row end = at_once
negative_value_unmarking row (group d ts us) = at_once
negative_value_unmarking row (leaf q us) =
    choice (r.is_literal q) (choice (r.negatable q.text) at_once at_once) at_once

discriminant_unmarking : Unmarking unchanged r.discriminant
discriminant_unmarking row end = at_once
discriminant_unmarking row (group d ts us) = at_once
discriminant_unmarking row (leaf q us) =
    choice (r.is_literal q) at_once
    (choice {u = refuse 21 row} (r.is_punct MINUS q)
    (onward_alike (role.value ∷ []) (negative_value_unmarking (row + 1) us)) at_once)

value_if_unmarking : Unmarking unchanged r.value_if
value_if_unmarking row end = at_once
value_if_unmarking row (group d ts us) = at_once
value_if_unmarking row (leaf q us) =
    choice (r.is_punct EQUALS q) (onward_alike (role.separator ∷ []) (discriminant_unmarking (row + 1) us))
    (choice {t = took Value.absent [] (leaf q us)} {u = refuse 20 row} (r.is_punct COMMA q) at_once at_once)

variant_here_unmarking : Unmarking (maybe unmarked_variant) r.variant_here
variant_here_unmarking =
    bind _ attributes_unmarking (λ a. bind _ (word_unmarking role.variant-name) (λ w. bind _ (named!_unmarking w)
    (λ n. bind _ variant_fields_unmarking (λ f. bind _ value_if_unmarking (λ v. comma_alike unmarked_variant _)))))

pub variant_unmarking : Unmarking (maybe unmarked_variant) r.variant
variant_unmarking row end = at_once
variant_unmarking row (leaf q us) = variant_here_unmarking row (leaf q us)
variant_unmarking row (group d ts us) = variant_here_unmarking row (group d ts us)

struct_fields_unmarking : {m : Reader Fields} → Unmarking unmarked_fields m →
    Unmarking unmarked_body (r.struct_fields_lem m)
struct_fields_unmarking e = bind _ e (λ f row ts. at_once)

body_of_unmarking : (k : Kind) → Unmarking unmarked_body (r.body_of k)
body_of_unmarking struct row end = at_once
body_of_unmarking struct row (leaf q us) = choice (r.is_punct SEMICOLON q) at_once at_once
body_of_unmarking struct row (group d ts us) =
    choice (eqb d BRACE) (enclosed_alike (struct_fields_unmarking named_fields_unmarking) row ts us)
    (choice (eqb d PARENTHESIS) (enclosed_alike (struct_fields_unmarking tuple_fields_unmarking) row ts us) at_once)
body_of_unmarking enum row end = at_once
body_of_unmarking enum row (leaf q us) = choice (r.is_punct SEMICOLON q) at_once at_once
body_of_unmarking enum row (group d ts us) =
    enclosed_alike (bind _ (every_unmarking variant_unmarking) (λ vs row ts. at_once)) row ts us

-- ## The item

pub item_unmarking : Unmarking unmarked_declaration r.item
item_unmarking =
    bind _ attributes_unmarking
    (λ a. bind _ visibility_unmarking
    (λ v. bind _ data_type_unmarking
    (λ h. bind _ generics_unmarking
    (λ p. bind _ clause_unmarking
    (λ c. bind _ (body_of_unmarking h.kind)
    (λ y row ts. at_once))))))
