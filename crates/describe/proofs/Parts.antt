-- Laws on a body and the things that stand in it.
use mathlib.Core.Path.{◌≡◌, refl, ap, ◌∙◌, sym, subst⁻¹}
use mathlib.Core.Bool.{Bool, true, false, cond}
use mathlib.Core.List.{List, []}
use Prim.Native.Nat.{ℕ, ◌+◌}
use lib.Dec.{eqb}
use lib.IntN.{ℤ}
use Rattle.token_list.specs.Byte.{BRACE, PARENTHESIS, SEMICOLON}
use Rattle.token_list.specs.Stream.{Trees, end, leaf, group, at}
use Rattle.token_list.specs.Contract.{LeafAt, GroupAt, row_of, stands}
use Rattle.token_list.specs.declared.stream.Peeked.{Peeked}
use Rattle.token_list.specs.declared.stream.Peeked.TheVariants as peeks
use Rattle.token_list.specs.declared.check.Cursor.{Cursor}
use Rattle.token_list.specs.declared.stream.Token.{Token}
use Rattle.reading.specs.Declaration as declaration
use Rattle.reading.specs.Took.{Took, took, stopped, refuse, Reader, after, pure}
use Rattle.reading.specs.Reading as reading
use Rattle.reading.specs.Place.{inside_of, inside}
use Rattle.parse.specs.Contract.{stream, point, past_of, InsideAt}
use Rattle.parse.proofs.Meeting.{past_in}
use Rattle.describe.specs.Value.{body_value}
use Rattle.describe.specs.Listing.{body_lines}
use Rattle.describe.specs.Contract.{fields_in, StructAt}
use Rattle.parse.proofs.Inside.{took_not_refuse, took_value}

-- by either branch of a choice
either : {A B : Type 0} (b : Bool) {t u v : Took A} → (t ≡ v → B) → (u ≡ v → B) → cond b t u ≡ v → B
either true f g e = f e
either false f g e = g e

-- what is made of a group's inside was read in it
module _ {A B : Type 0} (m : Reader A) (f : A → B) where
  pub within : (row : ℕ) (ts us : Trees) {b : B} {rs : List ℕ} {vs : Trees} →
      reading.enclosed (λ r ts. after r (m r ts) (λ a. pure (f a))) row ts us ≡ took b rs vs
      → (a : A) × (b ≡ f a) × (qs : List ℕ) × (ws : Trees) × (m (row + 1) ts ≡ took a qs ws)
  within row ts us {b} {rs} {vs} e = go (m (row + 1) ts) refl e
    where
      go : (t : Took A) → m (row + 1) ts ≡ t → reading.closing us (after (row + 1) t (λ a. pure (f a))) ≡ took b rs vs
          → (a : A) × (b ≡ f a) × (qs : List ℕ) × (ws : Trees) × (m (row + 1) ts ≡ took a qs ws)
      go (took a qs ws) g h = (a, sym (took_value h), qs, ws, g)
      go (stopped w n p) g h = took_not_refuse h

-- ## Bodies

-- a struct's body is fields
struct_fields : (row : ℕ) (ts : Trees) {b : declaration.Body} {rs : List ℕ} {us : Trees} →
    reading.struct_body_lem row ts ≡ took b rs us → (f : declaration.Fields) × (b ≡ declaration.fields f)
struct_fields row end e = took_not_refuse e
struct_fields row (leaf r us) e =
    either (reading.is_punct SEMICOLON r) (λ h. (declaration.unit, sym (took_value h))) took_not_refuse e
struct_fields row (group d ts us) e =
    either (eqb d BRACE) (λ h. let w = within reading.named_fields declaration.fields row ts us h in (w.0, w.1))
    (either (eqb d PARENTHESIS) (λ h. let w = within reading.tuple_fields declaration.fields row ts us h in (w.0, w.1))
    took_not_refuse) e

pub struct_body : {s : List ℕ} {c : Cursor} {b : declaration.Body} → InsideAt reading.struct_body_lem s c b →
    (f : declaration.Fields) × (b ≡ declaration.fields f)
struct_body {s} {c} i = struct_fields c.row (stream s c) i.gives

pub struct_value : {s : List ℕ} {c : Cursor} {b : declaration.Body} (k : ℕ) → InsideAt reading.struct_body_lem s c b →
    body_value k b ≡ declaration.absent
struct_value k i = ap (body_value k) (struct_body i).1

-- the cursor inside a group
pub inside-point : (s : List ℕ) (c d : Cursor) (t : Token) → GroupAt s c.at t → d ≡ past_of c t →
    point s d ≡ inside (point s c)
inside-point s c d t g e = ap (point s) e ∙ sym (ap (inside_of c.row) g.here)

module _ {s : List ℕ} {c : Cursor} {b : declaration.Body} (i : InsideAt reading.enum_body s c b) where
  -- an enum's body is a group of variants
  pub enum_group : (t : Token) (d : Cursor) → GroupAt s c.at t → d ≡ past_of c t → (vs : List declaration.Variant) ×
      (b ≡ declaration.variants vs) × InsideAt (reading.every reading.variant) s d vs
  enum_group t d g e =
      let w = within (reading.every reading.variant) declaration.variants c.row (at s t.next).here g.after
      (ap (reading.enum_body c.row) (sym g.here) ∙ i.gives) in (
        w.0,
        w.1,
        subst⁻¹ (λ (x : Cursor). InsideAt (reading.every reading.variant) s x w.0) e
            (record { in_list = past_in s c t i.in_list g.token; roles = w.2; rest = w.3; gives = w.4 }),
      )

  -- or `;`
  pub enum_leaf : (t : Token) → LeafAt s c.at t → b ≡ declaration.variants []
  enum_leaf t l =
      either (reading.is_punct SEMICOLON (row_of s t)) (λ h. sym (took_value h)) took_not_refuse
      (ap (reading.enum_body c.row) (sym l.here) ∙ i.gives)

  pub enum_end : {B : Type 0} → stream s c ≡ end → B
  enum_end e = took_not_refuse (ap (reading.enum_body c.row) (sym e) ∙ i.gives)

-- a value that was made of another
module _ {A B : Type 0} (f : A → B) where
  pub made : (row : ℕ) (t : Took A) {b : B} {rs : List ℕ} {us : Trees} → after row t (λ a. pure (f a)) ≡ took b rs us
      → (a : A) × (b ≡ f a) × (qs : List ℕ) × (ws : Trees) × (t ≡ took a qs ws)
  made row (took a qs ws) h = (a, sym (took_value h), qs, ws, refl)
  made row (stopped w n p) h = took_not_refuse h

module _ {s : List ℕ} {c : Cursor} {b : declaration.Body} (i : InsideAt reading.struct_body_lem s c b) where
  -- a struct's body is a group of fields
  pub struct_group : (t : Token) (d : Cursor) → GroupAt s c.at t → d ≡ past_of c t → (f : declaration.Fields) ×
      (b ≡ declaration.fields f) × StructAt s t.byte d f
  struct_group t d g e = go (eqb t.byte BRACE) (ap (reading.struct_body_lem c.row) (sym g.here) ∙ i.gives)
    where
      here : {A : Type 0} (m : Reader A) {a : A} {qs : List ℕ} {ws : Trees} →
          m (c.row + 1) (at s t.next).here ≡ took a qs ws → InsideAt m s d a
      here m {a} {qs} {ws} h =
          subst⁻¹ (λ (x : Cursor). InsideAt m s x a) e
          (record { in_list = past_in s c t i.in_list g.token; roles = qs; rest = ws; gives = h })

      go : (z : Bool)
          → cond z
          (reading.enclosed (reading.struct_fields_lem reading.named_fields) c.row (at s t.next).here g.after)
          (cond (eqb t.byte PARENTHESIS)
          (reading.enclosed (reading.struct_fields_lem reading.tuple_fields) c.row (at s t.next).here g.after)
          (refuse 17 c.row))
          ≡ took b i.roles i.rest
          → (f : declaration.Fields) × (b ≡ declaration.fields f) × fields_in z s d f
      go true h =
          let w = within reading.named_fields declaration.fields c.row (at s t.next).here g.after h in
          let v = made declaration.named (c.row + 1) (reading.every reading.named_field (c.row + 1)
          (at s t.next).here) w.4 in
          (w.0, w.1, (v.0, v.1, here (reading.every reading.named_field) v.4))
      go false h =
          either (eqb t.byte PARENTHESIS)
          (λ h.
          let w = within reading.tuple_fields declaration.fields c.row (at s t.next).here g.after h in
          let v = made declaration.tuple (c.row + 1) (reading.every reading.tuple_field (c.row + 1)
          (at s t.next).here) w.4 in
          (w.0, w.1, (v.0, v.1, here (reading.every reading.tuple_field) v.4)))
          took_not_refuse h

  pub struct_leaf : (t : Token) → LeafAt s c.at t → b ≡ declaration.fields declaration.unit
  struct_leaf t l =
      either (reading.is_punct SEMICOLON (row_of s t)) (λ h. sym (took_value h)) took_not_refuse
      (ap (reading.struct_body_lem c.row) (sym l.here) ∙ i.gives)

  pub struct_end : {B : Type 0} → stream s c ≡ end → B
  struct_end e = took_not_refuse (ap (reading.struct_body_lem c.row) (sym e) ∙ i.gives)

-- ## A body without a group

-- no group stands at i, by what the code saw there
pub record NoGroup (s : List ℕ) (i : ℕ) (p : Peeked) : Type 0 where
  pub stands : stands s i p
  pub none : (t : Token) → p ≡ peeks.Group t → ⊥

module _ {s : List ℕ} {c : Cursor} {b : declaration.Body} where
  pub enum_none : (p : Peeked) → NoGroup s c.at p → InsideAt reading.enum_body s c b → b ≡ declaration.variants []
  enum_none peeks.Nothing n i = enum_end i n.stands
  enum_none (peeks.Leaf t) n i = enum_leaf i t n.stands
  enum_none (peeks.Group t) n i = absurd (n.none t refl)

  struct_none : (p : Peeked) → NoGroup s c.at p → InsideAt reading.struct_body_lem s c b →
      b ≡ declaration.fields declaration.unit
  struct_none peeks.Nothing n i = struct_end i n.stands
  struct_none (peeks.Leaf t) n i = struct_leaf i t n.stands
  struct_none (peeks.Group t) n i = absurd (n.none t refl)

  pub body_none : (k : declaration.Kind) (zs : List ℤ) (p : Peeked) → NoGroup s c.at p →
      InsideAt (reading.body_of k) s c b → body_lines zs b ≡ []
  body_none declaration.struct zs p n i = ap (body_lines zs) (struct_none p n i)
  body_none declaration.enum zs p n i = ap (body_lines zs) (enum_none p n i)
