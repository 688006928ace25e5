-- The answers of fields, variants, body and item.
use Rattle.std.specs.Prelude.{◌≡◌, Bool, true, false, List, ℕ, ◌+◌, length, Result, Ok, Err}
use Rattle.token_list.specs.Byte.{COMMA}
use Rattle.token_list.specs.Stream.{Trees, head, at}
use Rattle.token_list.specs.Contract.{start_of}
use Rattle.token_list.specs.Place.{OneRefusal}
use Rattle.token_list.specs.declared.check.Cursor.{Cursor}
use Rattle.token_list.specs.declared.check.Refusal.{Refusal}
use Rattle.token_list.specs.declared.stream.Token.{Token}
use Rattle.reading.specs.Role as role
use Rattle.reading.specs.Declaration as declaration
use Rattle.reading.specs.Took.{Took, Reader, pure, ◌>>=◌, Point, beyond}
use Rattle.reading.specs.Reading as reading
use Rattle.reading.specs.Place.{VariantHead, visibility_at, start_at, item_name_at, generics_at, clause_at, body_at}
use Rattle.reading.specs.Place.{type_at}
use Rattle.reading.specs.Place.{variant_name_at, group_at, value_row}
use Rattle.reading.specs.Answer as answers
use Rattle.parse.specs.Meets.{Said, said, shown, next_of, point, CursorAt, TokenIn, TextOf, InsideAt}
use Rattle.parse.specs.declared.utils.Next.{Next}
use Rattle.parse.specs.declared.utils.Next.TheVariants.{One, Done}
use Rattle.parse.specs.declared.fields.FieldAt.{FieldAt}
use Rattle.parse.specs.declared.fields.UnnamedFieldAt.{UnnamedFieldAt}
use Rattle.parse.specs.Parts.{NameAt, RunAt, kind_of, ClauseOf}
use Rattle.parse.specs.declared.utils.PlacedName.{PlacedName}
use Rattle.parse.specs.declared.data_type.DataType.{DataType}
use Rattle.parse.specs.declared.fields.TypeAt.{TypeAt}
use Rattle.parse.specs.declared.variants.FieldsAt.{FieldsAt}
use Rattle.parse.specs.declared.variants.FieldsAt.TheVariants as fields_ats
use Rattle.parse.specs.declared.variants.ValueAt.{ValueAt}
use Rattle.parse.specs.declared.variants.ValueAt.TheVariants as value_ats
use Rattle.parse.specs.declared.variants.VariantAt.{VariantAt}
use Rattle.parse.specs.declared.item.ItemAt.{ItemAt}

-- ## prefix

-- what stands before an item or a field
pub record Prefix : Type 0 where
  pub attributes : List Trees
  pub visibility : declaration.Visibility

abbrev pub prefix : Reader Prefix
prefix = do
  a ← reading.attributes
  v ← reading.visibility
  pure (record { attributes = a; visibility = v })

-- where it stands, from the cursor c on: the attributes are read there, and then the visibility
pub record PrefixOf (s : List ℕ) (c d : Cursor) (p : Prefix) : Type 0 where
  pub attributes : InsideAt reading.attributes s c p.attributes
  pub visibility : InsideAt reading.visibility s d p.visibility
  pub place : CursorAt s (visibility_at (point s c)) d

-- ## fields

-- a type's run, and the `,` that may follow
abbrev pub field_type : Reader Trees
field_type = reading.run reading.field_stops role.type >>= λ t. (reading.punct_if COMMA role.separator >>= λ u. pure t)

abbrev pub type_said : Result TypeAt Refusal → Said
type_said = said (λ t. t.next)

-- a type at x
abbrev pub type_at_shown : List ℕ → Point → Result TypeAt Refusal → Trees → Type 0
type_at_shown s x = shown (λ t v. RunAt s reading.field_stops role.type x t.run v)

-- the field of this name, with its type at x
abbrev pub NamedAt : List ℕ → Point → Prefix → List ℕ → Result TypeAt Refusal → reading.Maybe declaration.Field → Type 0
NamedAt s x p n t v =
    (f : Trees) × (v ≡ reading.one (record {
      name = n;
      field = record { attributes = p.attributes; visibility = p.visibility; type = f };
    })) × type_at_shown s x t f

-- a field without its name, from the cursor c on, with its type at y
pub record UnnamedFieldOf (s : List ℕ) (c : Cursor) (y : Point) (visibility : Cursor) (typed : TypeAt)
    (f : declaration.UnnamedField) : Type 0 where
  pub prefix : PrefixOf s c visibility (record { attributes = f.attributes; visibility = f.visibility })
  pub type : RunAt s reading.field_stops role.type y typed.run f.type

abbrev pub field_said : Result (Next FieldAt (Cursor × Cursor)) Refusal → Said
field_said = said (next_of (λ f. f.typed.next) (λ d. d.1))

-- a named field from c on; or attributes and visibility that belong to none
abbrev pub field_shown : List ℕ → Cursor → Result (Next FieldAt (Cursor × Cursor)) Refusal
    → reading.Maybe declaration.Field → Type 0
field_shown s c (Ok (One f)) v =
    (a : declaration.Field) × (v ≡ reading.one a) × TextOf s f.name a.name ×
    TokenIn s (start_at (point s c)).row f.name ×
    UnnamedFieldOf s c (type_at (point s c)) f.visibility f.typed a.field
field_shown s c (Ok (Done (v, d))) a = (a ≡ reading.done) × ((p : Prefix) × PrefixOf s c v p)
field_shown s c (Err r) v = ⊥

-- its name and the cursor after it alone
abbrev pub named_said : Result (Next (Token × Cursor) Cursor) Refusal → Said
named_said = said (next_of (λ f. f.1) (λ d. d))

abbrev pub named_shown : List ℕ → Cursor → Result (Next (Token × Cursor) Cursor) Refusal
    → reading.Maybe declaration.Field → Type 0
named_shown s c (Ok (One (t, d))) v =
    (a : declaration.Field) × (v ≡ reading.one a) × TextOf s t a.name × TokenIn s (start_at (point s c)).row t
named_shown s c (Ok (Done d)) v = v ≡ reading.done
named_shown s c (Err r) v = ⊥

abbrev pub unnamed_said : Result (Next UnnamedFieldAt Cursor) Refusal → Said
unnamed_said = said (next_of (λ f. f.typed.next) (λ d. d))

abbrev pub unnamed_shown : List ℕ → Cursor → Result (Next UnnamedFieldAt Cursor) Refusal
    → reading.Maybe declaration.UnnamedField → Type 0
unnamed_shown s c (Ok (One f)) v =
    (a : declaration.UnnamedField) × (v ≡ reading.one a) ×
    UnnamedFieldOf s c (start_at (point s c)) f.visibility f.typed a
unnamed_shown s c (Ok (Done d)) v = v ≡ reading.done
unnamed_shown s c (Err r) v = ⊥

-- the cursor after it alone
abbrev pub next_said : Result (Next Cursor Cursor) Refusal → Said
next_said = said (next_of (λ d. d) (λ d. d))

abbrev pub next_shown : {A : Type 0} → Result (Next Cursor Cursor) Refusal → reading.Maybe A → Type 0
next_shown {A} (Ok (One d)) v = (a : A) × (v ≡ reading.one a)
next_shown (Ok (Done d)) v = v ≡ reading.done
next_shown (Err r) v = ⊥

-- the inside of the group that opens at c, between its delimiters
abbrev pub Inside : {A : Type 0} → Reader A → List ℕ → Cursor → Token → Took A
Inside m s c t = reading.enclosed m c.row (at s t.next).here (head (at s t.next).outer)

-- ## variants

abbrev pub FieldsOf : List ℕ → FieldsAt → declaration.Fields → Type 0
FieldsOf s fields_ats.Unit v = v ≡ declaration.unit
FieldsOf s (fields_ats.Named c) v =
    (fs : List declaration.Field) × (v ≡ declaration.named fs) × InsideAt (reading.every reading.named_field) s c fs
FieldsOf s (fields_ats.Tuple c) v =
    (fs : List declaration.UnnamedField) × (v ≡ declaration.tuple fs) ×
    InsideAt (reading.every reading.tuple_field) s c fs

abbrev pub fields_said : Result (FieldsAt × Cursor) Refusal → Said
fields_said = said (λ f. f.1)

-- the cursor inside a group whose opening row is this one
abbrev pub FieldsIn : ℕ → FieldsAt → Type 0
FieldsIn row fields_ats.Unit = Unit {0}
FieldsIn row (fields_ats.Named c) = c.row ≡ row + 1
FieldsIn row (fields_ats.Tuple c) = c.row ≡ row + 1

abbrev pub fields_shown : List ℕ → Cursor → Result (FieldsAt × Cursor) Refusal → declaration.Fields → Type 0
fields_shown s c = shown (λ f v. FieldsOf s f.0 v × FieldsIn c.row f.0)

abbrev pub ValueOf : List ℕ → ValueAt → declaration.Value → Type 0
ValueOf s value_ats.Absent v = v ≡ declaration.absent
ValueOf s (value_ats.Literal t row) v = (x : List ℕ) × TextOf s t x × (v ≡ declaration.literal x)
ValueOf s (value_ats.Negative t) v =
    (x : List ℕ) × TextOf s t x × (reading.negatable x ≡ true) × (v ≡ declaration.negative (reading.worth x))

abbrev pub value_said : Result (ValueAt × Cursor) Refusal → Said
value_said = said (λ v. v.1)

-- the value's literal in this row
abbrev pub ValueIn : List ℕ → ℕ → ValueAt → Type 0
ValueIn s row value_ats.Absent = Unit {0}
ValueIn s row (value_ats.Literal t told) = TokenIn s row t × (told ≡ row)
ValueIn s row (value_ats.Negative t) = TokenIn s row t

-- a value whose literal stands in the row that `row` tells of it
abbrev pub value_shown : List ℕ → (declaration.Value → ℕ) → Result (ValueAt × Cursor) Refusal → declaration.Value
    → Type 0
value_shown s row = shown (λ w v. ValueOf s w.0 v × ValueIn s (row v) w.0)

-- a variant's value, and the `,` that may follow
abbrev pub variant_value : Reader declaration.Value
variant_value = reading.value_if >>= λ v. (reading.punct_if COMMA role.separator >>= λ u. pure v)

-- a variant's attributes, read at c, and its name
abbrev pub variant_name_shown : List ℕ → Cursor → Result PlacedName Refusal → VariantHead → Type 0
variant_name_shown s c = shown
    (λ n v. InsideAt reading.attributes s c v.attributes ×
    NameAt s (variant_name_at (point s c)) n.token n.place v.name)

pub record VariantOf (s : List ℕ) (p : VariantAt) (a : declaration.Variant) : Type 0 where
  pub name : TextOf s p.name a.name
  pub fields : FieldsOf s p.fields a.fields
  pub value : ValueOf s p.value a.value

abbrev pub variant_said : Result (Next VariantAt Cursor) Refusal → Said
variant_said = said (next_of (λ p. p.next) (λ d. d))

-- where its parts stand, from the cursor c where it begins
pub record VariantPlaces (s : List ℕ) (c : Cursor) (p : VariantAt) (a : declaration.Variant) : Type 0 where
  pub attributes : InsideAt reading.attributes s c a.attributes
  pub name : NameAt s (variant_name_at (point s c)) p.name p.place a.name
  pub fields : FieldsIn (group_at (point s c)).row p.fields
  pub value : ValueIn s (value_row (point s c) a.value) p.value

abbrev pub variant_shown : List ℕ → Cursor → Result (Next VariantAt Cursor) Refusal
    → reading.Maybe declaration.Variant → Type 0
variant_shown s c (Ok (One p)) v =
    (a : declaration.Variant) × (v ≡ reading.one a) × VariantOf s p a × VariantPlaces s c p a
variant_shown s c (Ok (Done d)) v = v ≡ reading.done
variant_shown s c (Err r) v = ⊥

-- ## body

abbrev pub body_shown_lem : Result (Cursor × ℕ) Refusal → declaration.Body → Type 0
body_shown_lem = shown (λ n v. n.1 ≡ declaration.body_count v)

-- ## item

-- what follows the item's word and name
abbrev pub parts_after : Prefix → reading.Head → Reader declaration.Declaration
parts_after p h = do
  g ← reading.generics
  c ← reading.clause
  b ← reading.body_of h.kind
  pure
      (record {
        attributes = p.attributes;
        visibility = p.visibility;
        kind = h.kind;
        name = h.name;
        generics = g;
        clause = c;
        body = b;
      })

-- what is told of a declaration: its kind, name and counts, and where its other parts are read
pub record ItemOf (s : List ℕ) (i : ItemAt) (d : declaration.Declaration) : Type 0 where
  pub kind : d.kind ≡ kind_of i.kind
  pub name : TextOf s i.name.token d.name
  pub parameters : i.parameters ≡ length (declaration.parameters_of d.generics)
  pub count : i.count ≡ declaration.body_count d.body
  pub generics : InsideAt reading.generics s i.name.next d.generics
  pub body : InsideAt (reading.body_of (kind_of i.kind)) s i.body d.body

abbrev pub item_said : Result ItemAt Refusal → Said
item_said = said (λ i. i.next)

-- where its parts stand, from the cursor c where it begins
pub record ItemPlaces (s : List ℕ) (c : Cursor) (i : ItemAt) (d : declaration.Declaration) : Type 0 where
  pub prefix : PrefixOf s c i.visibility (record { attributes = d.attributes; visibility = d.visibility })
  pub name : NameAt s (item_name_at (point s c)) i.name.token i.name.place d.name
  pub generics : CursorAt s (generics_at (point s c)) i.name.next
  pub clause : ClauseOf s (clause_at (point s c)) d.clause i.clause
  pub body : CursorAt s (body_at (point s c)) i.body

-- an item that begins at c, and where it ends
abbrev pub ItemIn : List ℕ → Cursor → ItemAt → declaration.Declaration → Type 0
ItemIn s c i d = ItemOf s i d × ItemPlaces s c i d × CursorAt s (beyond reading.item (point s c)) i.next

abbrev pub item_shown : List ℕ → Cursor → Result ItemAt Refusal → declaration.Declaration → Type 0
item_shown s c = shown (ItemIn s c)

-- an item that begins at c, up to its name: its prefix p and its head h
pub record HeadOf (s : List ℕ) (c v : Cursor) (k : DataType) (n : PlacedName) (p : Prefix) (h : reading.Head)
    : Type 0 where
  pub prefix : PrefixOf s c v p
  pub kind : kind_of k ≡ h.kind
  pub name : NameAt s (item_name_at (point s c)) n.token n.place h.name
  pub next : CursorAt s (generics_at (point s c)) n.next

abbrev pub parts_shown : List ℕ → Cursor → Result ItemAt Refusal → declaration.Declaration → Type 0
parts_shown s c = shown (λ i d. ItemOf s i d × ItemPlaces s c i d)

abbrev pub accepted : Result ItemAt Refusal → Bool
accepted (Ok i) = true
accepted (Err r) = false

-- the answer: the declaration's kind, name and counts and where its parts stand, or the refusal's number and place
abbrev pub ParsedAs : List ℕ → Result ItemAt Refusal → answers.Answer → Type 0
ParsedAs s (Ok i) (answers.declared d rs) = ItemIn s (start_of s) i d
ParsedAs s (Err r) (answers.declared d rs) = ⊥
ParsedAs s (Ok i) (answers.refused n p) = ⊥
ParsedAs s (Err r) (answers.refused n p) = (r.number ≡ n) × (r.place ≡ p)

-- the whole answer for a list s, what holds of a refusal, and the whole role buffer
pub record Answered (s : List ℕ) (r : Result ItemAt Refusal) (before after : List ℕ) : Type 0 where
  pub answer : ParsedAs s r (answers.answer s (length before))
  pub refusal : (n p : ℕ) → answers.answer s (length before) ≡ answers.refused n p
      → OneRefusal answers.read_number s n p
  pub buffer : after ≡ answers.buffer (length before) (answers.answer s (length before))
