-- What a declaration costs in a listing: no more than the weight of the rows that it is read from, 30 bytes a row and
-- the row's text.
use mathlib.Core.Path.{◌≡◌, refl}
use mathlib.Core.Bool.{Bool, true, false, cond}
use mathlib.Core.List.{List, [], ◌∷◌, ◌++◌}
use Prim.Native.Nat.{ℕ, zero, suc, ◌+◌, ◌*◌, ◌≤◌}
use native.Mathlib.Omega.{arith}
use lib.Dec.{eqb}
use lib.ListN.{length}
use Rattle.token_list.specs.Byte.{BRACE, COLON, COMMA, EQUALS, GREATER, LESS, PARENTHESIS, QUOTE, SEMICOLON}
use Rattle.token_list.specs.Text.{same}
use Rattle.token_list.specs.Row.{Row}
use Rattle.token_list.specs.Stream.{Trees, end, leaf, group, size}
use Rattle.token_list.proofs.Bounds.{texts}
use Rattle.reading.specs.Role as role
use Rattle.reading.specs.Declaration.{Kind, struct, enum, Parameter, lifetime, Visibility, UnnamedField, Field}
use Rattle.reading.specs.Declaration.{Fields, unit, named, tuple, Variant, Body}
use Rattle.reading.specs.Declaration.{fields, variants, Declaration, parameters_of}
use Rattle.reading.specs.Took.{Took, took, Cause, stopped, refuse, Reader, onward, after, ◌>>=◌, pure}
use Rattle.reading.specs.Reading as r
use Rattle.reading.specs.Reading.{Maybe, done, one, Word, missing, found, rounds, every, more}
use Rattle.reading.proofs.Rounds.{Conserved, taken, refused, Any, Turn, Empty}
use Rattle.reading.proofs.Conserved as conserved
use Rattle.reading.proofs.Conserved.{Conserving}
use Rattle.describe.specs.Listing.{parameter_name}

abbrev pub weight : Trees → ℕ
weight ts = texts ts + 30 * size ts

-- ## Costs: at least the bytes of the lines, where a position has at most four digits and a number 20 bytes

abbrev pub total : {A : Type 0} → (A → ℕ) → List A → ℕ
total cost [] = 0
total cost (x ∷ xs) = cost x + total cost xs

-- a line with this name
abbrev pub name_cost : List ℕ → ℕ
name_cost t = length t + 30

abbrev pub parameter_cost : Parameter → ℕ
parameter_cost p = name_cost (parameter_name p)

abbrev pub field_cost : Field → ℕ
field_cost f = name_cost f.name

abbrev pub type_cost : UnnamedField → ℕ
type_cost f = 30

abbrev pub fields_cost : Fields → ℕ
fields_cost unit = 0
fields_cost (named fs) = total field_cost fs
fields_cost (tuple fs) = total type_cost fs

abbrev pub variant_cost : Variant → ℕ
variant_cost v = name_cost v.name + fields_cost v.fields

abbrev pub body_cost : Body → ℕ
body_cost (fields f) = fields_cost f
body_cost (variants vs) = total variant_cost vs

abbrev pub item_cost_lem : Declaration → ℕ
item_cost_lem d = name_cost d.name + total parameter_cost (parameters_of d.generics) + body_cost d.body

-- ## Readers

-- the weight of the rows that were taken, and a credit of c, cover the cost of what was read
data Covered {A : Type 0} (cost : A → ℕ) (c : ℕ) (ts : Trees) : Took A → Type 0 where
  covers : (a : A) (rs : List ℕ) (us : Trees) → cost a + weight us ≤ c + weight ts → Covered cost c ts (took a rs us)
  refuses : {w : Cause} {n p : ℕ} → Covered cost c ts (stopped w n p)

abbrev Covering : {A : Type 0} → (A → ℕ) → ℕ → Reader A → Type 0
Covering cost c m = (row : ℕ) (ts : Trees) → Covered cost c ts (m row ts)

-- rows taken before, whose weight is the credit
onward_covered : {A : Type 0} {cost : A → ℕ} {c d : ℕ} {ts us : Trees} {t : Took A} (rs : List ℕ) →
    c + weight us ≤ d + weight ts → Covered cost c us t
    → Covered cost d ts (onward rs t)
onward_covered rs h (covers a qs vs e) = covers a (rs ++ qs) vs (omega arith)
onward_covered rs h refuses = refuses

after_covered : {A B : Type 0} {cost : A → ℕ} {of : B → ℕ} {c : ℕ} {ts : Trees} {t : Took A} (row : ℕ)
    (f : A → Reader B) → Covered cost c ts t
    → ((a : A) → Covering of (cost a) (f a)) → Covered of c ts (after row t f)
after_covered row f (covers a rs us e) k = onward_covered rs e (k a _ us)
after_covered row f refuses k = refuses

bind : {A B : Type 0} {cost : A → ℕ} {of : B → ℕ} {c : ℕ} {m : Reader A} {f : A → Reader B} → Covering cost c m →
    ((a : A) → Covering of (cost a) (f a)) → Covering of c (m >>= f)
bind {f = f} w k row ts = after_covered row f (w row ts) k

returned : {A : Type 0} {cost : A → ℕ} (a : A) → Covering cost (cost a) (pure a)
returned a row ts = covers a [] ts (omega arith)

choice : {A : Type 0} {cost : A → ℕ} {c : ℕ} {ts : Trees} (b : Bool) {t u : Took A} → Covered cost c ts t →
    Covered cost c ts u → Covered cost c ts (cond b t u)
choice true v w = v
choice false v w = w

nothing-taken : {A : Type 0} {cost : A → ℕ} {a : A} {ts : Trees} → cost a ≤ 0 → Covered cost 0 ts (took a [] ts)
nothing-taken {a = a} {ts = ts} h = covers a [] ts (omega arith)

one_row : {A : Type 0} {cost : A → ℕ} {a : A} (n : ℕ) (q : Row) (us : Trees) → cost a ≤ name_cost q.text →
    Covered cost 0 (leaf q us) (took a (n ∷ []) us)
one_row {a = a} n q us h = covers a (n ∷ []) us (omega arith)

-- a reader that needs no credit, besides a cost of d that has its own
besides : {A : Type 0} {cost : A → ℕ} {m : Reader A} (d : ℕ) → Covering cost 0 m → Covering (λ a. d + cost a) d m
besides {A} {cost} {m} d w row ts = go (w row ts)
  where
    go : {t : Took A} → Covered cost 0 ts t → Covered (λ a. d + cost a) d ts t
    go (covers a rs us e) = covers a rs us (omega arith)
    go refuses = refuses

-- what is read has no line
keeps : {A : Type 0} {m : Reader A} (d : ℕ) → ((b : ℕ) → Conserving b m) → Covering (λ a. d) d m
keeps {A} {m} d k row ts = go (k (row + size ts) row ts (omega arith))
  where
    go : {b : ℕ} {t : Took A} → Conserved b Any ts t → Covered (λ a. d) d ts t
    go (taken {a = a} rs us e h) = covers a rs us (omega arith)
    go (refused n p) = refuses

from_covered : {A : Type 0} {cost : A → ℕ} {c : ℕ} {m : Reader A} (n row : ℕ) (q : Row) (us : Trees) →
    c ≤ name_cost q.text → Covering cost c m
    → Covered cost 0 (leaf q us) (r.from n row us m)
from_covered n row q us h w = onward_covered {us = us} (n ∷ []) (omega arith) (w _ us)

enclosed_covered : {A : Type 0} {cost : A → ℕ} {m : Reader A} (row d : ℕ) (ts us : Trees) → Covering cost 0 m →
    Covered cost 0 (group d ts us) (r.enclosed m row ts us)
enclosed_covered {A} {cost} {m} row d ts us w = go (w (row + 1) ts)
  where
    go : {t : Took A} → Covered cost 0 ts t → Covered cost 0 (group d ts us) (r.closing us t)
    go (covers a rs vs e) = covers a _ us (omega arith)
    go refuses = refuses

abbrev maybe : {A : Type 0} → (A → ℕ) → Maybe A → ℕ
maybe cost done = 0
maybe cost (one a) = cost a

every_covering : {A : Type 0} {cost : A → ℕ} {m : Reader (Maybe A)} → Covering (maybe cost) 0 m →
    Covering (total cost) 0 (every m)
every_covering {A} {cost} {m} w row ts = again (suc (size ts)) row ts
  where
    goes_on : {k : Reader (List A)} → Covering (total cost) 0 k → (v : Maybe A) →
        Covering (total cost) (maybe cost v) (more k v)
    goes_on k done = returned []
    goes_on k (one a) = bind (besides (cost a) k) (λ xs. returned (a ∷ xs))

    again : (n : ℕ) → Covering (total cost) 0 (rounds n m)
    again zero row ts = refuses
    again (suc n) row ts = after_covered row (more (rounds n m)) (w row ts) (goes_on (again n))

comma_covering : {A : Type 0} {cost : A → ℕ} (a : A) → Covering (maybe cost) (cost a) (r.comma a)
comma_covering {cost = cost} a = bind (keeps (cost a) (λ b. conserved.punct_if_conserving b COMMA role.separator refl))
    (λ t. returned (one a))

-- ## Words and the item's name

abbrev word_cost : Word → ℕ
word_cost missing = 0
word_cost (found t p) = name_cost t

word_covering : (n : ℕ) → Covering word_cost 0 (r.word n)
word_covering n row end = nothing-taken (omega arith)
word_covering n row (leaf q us) = choice (r.is_ident q) (one_row n q us (omega arith)) (nothing-taken (omega arith))
word_covering n row (group d ts us) =
    choice (r.lone r.is_ident ts) (covers _ (r.copied n ts) us (omega (arith, first ts))) (nothing-taken (omega arith))
  where
    first : (ts : Trees) → length (r.first_text ts) ≤ texts ts
    first end = omega arith
    first (leaf q us) = omega arith
    first (group d ts us) = omega arith

named!_covering : (w : Word) → Covering name_cost (word_cost w) (r.named! w)
named!_covering missing row ts = refuses
named!_covering (found t p) row ts = covers t [] ts (omega arith)

named_kind_covering : (w : Word) → Covering (λ k. 0) 0 (r.named_kind w)
named_kind_covering missing = λ row ts. refuses
named_kind_covering (found t p) = go (same t r.STRUCT) (same t r.ENUM)
  where
    go : (s e : Bool) → Covering (λ k. 0) 0 (cond s (pure struct) (cond e (pure enum) (λ row ts. refuse 25 p)))
    go true e = returned struct
    go false true = returned enum
    go false false = λ row ts. refuses

abbrev head_cost : r.Head → ℕ
head_cost h = name_cost h.name

data_type_covering : Covering head_cost 0 r.data_type
data_type_covering =
    bind (keeps 0 (λ b. conserved.word_conserving b role.item-word refl))
    (λ w. bind (named_kind_covering w)
    (λ k. bind (word_covering role.item-name)
    (λ v. bind (named!_covering v)
    (λ n. returned _))))

-- ## Parameters

parameter_name_covering : (n p : ℕ) → Covering name_cost 0 (r.parameter_name n p)
parameter_name_covering n p row end = refuses
parameter_name_covering n p row (leaf q us) =
    choice (r.is_ident q) (one_row role.parameter-name q us (omega arith)) refuses
parameter_name_covering n p row (group d ts us) = refuses

-- the `'` has a row of its own
lifetime_after_covering : (q : ℕ) → Covering parameter_cost 1 (r.lifetime_after q)
lifetime_after_covering q =
    bind (besides 1 (parameter_name_covering 24 q))
    (λ n. bind (keeps _ (λ b. conserved.optional_run_conserving b COLON))
    (λ b row ts. covers (lifetime n b) [] ts (omega arith)))

constant_after_covering : Covering parameter_cost 0 r.constant_after
constant_after_covering =
    bind (parameter_name_covering 27 65535)
    (λ n. bind (keeps _ (λ b. conserved.optional_run_conserving b COLON)) (λ b. returned _))

type_after_covering : (n : List ℕ) → Covering parameter_cost (name_cost n) (r.type_after n)
type_after_covering n = bind (keeps _ (λ b. conserved.punct_if_conserving b COLON role.separator refl)) runs
  where
    runs : (t : Bool) → Covering parameter_cost (name_cost n) (r.type_runs n t)
    runs true = bind (keeps _ (λ b. conserved.run_conserving b r.parameter_stops role.bound refl)) (λ b. returned _)
    runs false = bind (keeps _ (λ b. conserved.optional_run_conserving b EQUALS)) (λ d. returned _)

parameter_covering : (angle : ℕ) → Covering (maybe parameter_cost) 0 (r.parameter angle)
parameter_covering angle row end = refuses
parameter_covering angle row (group d ts us) = refuses
parameter_covering angle row (leaf q us) =
    choice (r.is_punct QUOTE q)
    (from_covered role.parameter-name row q us (omega arith) (bind (lifetime_after_covering row) comma_covering))
    (choice (r.is_punct GREATER q) (one_row role.angle q us (omega arith))
    (choice (r.is_word r.CONST q) (from_covered role.parameter-name row q us (omega arith)
    (bind constant_after_covering comma_covering))
    (choice (r.is_ident q) (from_covered role.parameter-name row q us (omega arith)
    (bind (type_after_covering q.text) comma_covering)) refuses)))

generics_covering : Covering (λ g. total parameter_cost (parameters_of g)) 0 r.generics
generics_covering row end = nothing-taken (omega arith)
generics_covering row (group d ts us) = nothing-taken (omega arith)
generics_covering row (leaf q us) =
    choice (r.is_punct LESS q)
    (from_covered role.angle row q us (omega arith)
    (bind (every_covering (parameter_covering row)) (λ ps. returned _)))
    (nothing-taken (omega arith))

-- ## Fields

field_start_covering : (a : List Trees) (v : Visibility) → Covering (maybe field_cost) 0 (r.field_start a v)
field_start_covering a v row end = nothing-taken (omega arith)
field_start_covering a v row (group d ts us) = refuses
field_start_covering a v row (leaf q us) =
    choice (r.is_ident q) (from_covered role.field_name row q us (omega arith) (rest q.text)) refuses
  where
    rest : (n : List ℕ) → Covering (maybe field_cost) (name_cost n) (r.field_after a v n)
    rest n =
        bind (keeps _ (λ b. conserved.punct_if_conserving b COLON role.separator refl))
        (λ t. bind (keeps _ (λ b. conserved.must_conserving b 23 t refl))
        (λ u. bind (keeps _ (λ b. conserved.run_conserving b r.field_stops role.type refl))
        (λ f. comma_covering _)))

named_field_covering : Covering (maybe field_cost) 0 r.named_field
named_field_covering =
    bind (keeps 0 conserved.attributes_conserving)
    (λ a. bind (keeps 0 conserved.visibility_conserving) (field_start_covering a))

-- a row at least is taken
tuple_field_covering : Covering (maybe type_cost) 0 r.tuple_field
tuple_field_covering row ts = go (conserved.tuple_field_turning (row + size ts) row ts (omega arith))
  where
    go : {b : ℕ} {t : Took (Maybe UnnamedField)} → Conserved b (Turn Empty (size ts)) ts t →
        Covered (maybe type_cost) 0 ts t
    go (taken {a = one a} rs us e h) = covers (one a) rs us (omega arith)
    go (taken {a = done} rs us e h) = covers done rs us (omega arith)
    go (refused n p) = refuses

named_fields_covering : Covering fields_cost 0 r.named_fields
named_fields_covering = bind (every_covering named_field_covering) (λ fs. returned _)

tuple_fields_covering : Covering fields_cost 0 r.tuple_fields
tuple_fields_covering = bind (every_covering tuple_field_covering) (λ ts. returned _)

variant_fields_covering : Covering fields_cost 0 r.variant_fields
variant_fields_covering row end = nothing-taken (omega arith)
variant_fields_covering row (leaf q us) = nothing-taken (omega arith)
variant_fields_covering row (group d ts us) =
    choice (eqb d BRACE) (enclosed_covered row d ts us named_fields_covering)
    (choice (eqb d PARENTHESIS) (enclosed_covered row d ts us tuple_fields_covering) refuses)

-- ## Variants and bodies

variant_here_covering : Covering (maybe variant_cost) 0 r.variant_here
variant_here_covering =
    bind (keeps 0 conserved.attributes_conserving)
    (λ a. bind (word_covering role.variant-name)
    (λ w. bind (named!_covering w)
    (λ n. bind (besides (name_cost n) variant_fields_covering)
    (λ f. bind (keeps _ conserved.value_if_conserving)
    (λ v. comma_covering _)))))

variant_covering : Covering (maybe variant_cost) 0 r.variant
variant_covering row end = nothing-taken (omega arith)
variant_covering row (leaf q us) = variant_here_covering row (leaf q us)
variant_covering row (group d ts us) = variant_here_covering row (group d ts us)

struct_body_covering : Covering body_cost 0 r.struct_body_lem
struct_body_covering row end = refuses
struct_body_covering row (leaf q us) =
    choice (r.is_punct SEMICOLON q) (one_row role.delimiter q us (omega arith)) refuses
struct_body_covering row (group d ts us) =
    choice (eqb d BRACE) (enclosed_covered row d ts us (bind named_fields_covering (λ f. returned _)))
    (choice (eqb d PARENTHESIS) (enclosed_covered row d ts us (bind tuple_fields_covering (λ f. returned _))) refuses)

enum_body_covering : Covering body_cost 0 r.enum_body
enum_body_covering row end = refuses
enum_body_covering row (leaf q us) = choice (r.is_punct SEMICOLON q) (one_row role.delimiter q us (omega arith)) refuses
enum_body_covering row (group d ts us) =
    enclosed_covered row d ts us (bind (every_covering variant_covering) (λ vs. returned _))

body_of_covering : (k : Kind) → Covering body_cost 0 (r.body_of k)
body_of_covering struct = struct_body_covering
body_of_covering enum = enum_body_covering

-- ## The item

item_covering : Covering item_cost_lem 0 r.item
item_covering =
    bind (keeps 0 conserved.attributes_conserving)
    (λ a. bind (keeps 0 conserved.visibility_conserving)
    (λ v. bind data_type_covering
    (λ h. bind (besides (head_cost h) generics_covering)
    (λ p. bind (keeps _ conserved.clause_conserving)
    (λ c. bind (besides _ (body_of_covering h.kind))
    (λ b. returned _))))))

pub item_cost : {d : Declaration} {rs : List ℕ} {us : Trees} (row : ℕ) (ts : Trees) → r.item row ts ≡ took d rs us →
    item_cost_lem d ≤ weight ts
item_cost {d} {rs} {us} row ts e = go (rw e at (item_covering row ts))
  where
    go : Covered item_cost_lem 0 ts (took d rs us) → item_cost_lem d ≤ weight ts
    go (covers d rs us h) = omega arith
