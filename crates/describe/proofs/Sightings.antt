-- Laws on variants that share a name or a number: what was seen of those before, and the first fault of all.
use mathlib.Core.Path.{◌≡◌, refl, ap, ◌∙◌, sym, subst, subst⁻¹}
use mathlib.Core.Bool.{Bool, true, false, cond}
use mathlib.Core.List.{List, [], ◌∷◌, ◌++◌, map}
use Prim.Native.Nat.{ℕ, ◌+◌, ◌*◌, ◌≤◌, ◌<◌}
use native.Mathlib.Omega.{arith}
use lib.IntN.{ℤ, pos, negsuc, nat_abs}
use lib.Signed.{lt_z}
use borrow.Author.Tests.{le-ltb}
use lib.ListN.{length, replicate, length-append, length-map, length-replicate}
use Rattle.token_list.specs.Layout.{MAX_BYTES, MAX_ROWS}
use Rattle.token_list.specs.Stream.{Trees, size}
use Rattle.token_list.specs.Contract.{InList}
use Rattle.token_list.specs.declared.stream.Peeked.{Peeked}
use Rattle.token_list.specs.declared.check.Cursor.{Cursor}
use Rattle.token_list.specs.declared.check.Refusal.{Refusal}
use Rattle.token_list.specs.declared.stream.Token.{Token}
use Rattle.reading.specs.Declaration.{Variant, Body, fields, variants, body_count, Declaration}
use Rattle.reading.specs.Reading as reading
use Rattle.reading.specs.Reading.{Maybe, done, every}
use Rattle.reading.specs.Took.{took, Point}
use Rattle.reading.specs.Place.{variant_at, variant_name_at}
use Rattle.parse.specs.Contract.{Said, on, no, Meets, stream, point, InsideAt, NameAt, VariantOf, VariantPlaces}
use Rattle.parse.specs.Contract.{variant_shown, variant_said, kind_of}
use Rattle.parse.specs.declared.data_type.DataType.{DataType}
use Rattle.parse.specs.declared.data_type.DataType.TheVariants as kinds
use Rattle.parse.specs.declared.variants.VariantAt.{VariantAt}
use Rattle.parse.specs.declared.utils.Next.TheVariants.{One}
use Rattle.doubles.specs.Double as double
use Rattle.doubles.specs.Double.{Double, second, first_double, stands}
use Rattle.doubles.specs.Same.{same_name, same_integer}
use Rattle.doubles.specs.Key.{Key, same_key, name_key, integer_key}
use Rattle.doubles.specs.Contract.{MINUS_SIGN, signed, Holds, Seen}
use Rattle.reading.proofs.Few.{variant_count, item_few}
use Rattle.doubles.proofs.Tables.{nothing_seen}
use Rattle.doubles.proofs.Doubles.{or_next, double_more, stands_by}
use Rattle.describe.specs.Numbers.{Fault, name_again, number_again, fault_number, number, number_after, Numbers}
use Rattle.describe.specs.Numbers.{numbers, numbers_from, BEFORE_FIRST, or_double, distinct, variant_names}
use Rattle.describe.specs.Numbers.{body_numbers, body_names, fault_row, fault_in}
use Rattle.describe.specs.Contract.{NumberAs, NumberIn, Begins, FaultAs, faultless, lacks, found_at, or_found}
use Rattle.describe.specs.Contract.{MANY, SeenAll, NamesSeen, IntegersSeen, faults_of, Tables}
use Rattle.std.specs.Prelude.{Option, Some, None, Result, Ok, Err}
use Rattle.describe.proofs.Parts.{struct_body, NoGroup, enum_none}
use Rattle.describe.proofs.Ends.{Turn, NotOne, variant_end}
use Rattle.describe.proofs.Numbering.{Counted, variant_in, variant_one, counted_start, counted-more}
use Rattle.describe.proofs.Numbering.{counted_lacks, counted_done, counted_refused, number_refused}

-- an integer by its sign and its size
pub signed_is : (z : ℤ) {b : Bool} {n : ℕ} → b ≡ lt_z z (pos 0) → n ≡ nat_abs z → signed b n ≡ z
signed_is z e f = (λ i. signed (e i) (f i)) ∙ go z
  where
    go : (z : ℤ) → signed (lt_z z (pos 0)) (nat_abs z) ≡ z
    go (pos n) = ap (λ (b : Bool). signed b n) (le-ltb n 0 (omega arith))
    go (negsuc n) = refl

-- ## One thing more is seen

map_more : {A B : Type 0} (f : A → B) (xs : List A) (x : A) → map f (xs ++ x ∷ []) ≡ map f xs ++ f x ∷ []
map_more f [] x = refl
map_more f (y ∷ xs) x = ap (λ zs. f y ∷ zs) (map_more f xs x)

found-more : (row : ℕ → ℕ) (d : Double) (again : Bool) (k : ℕ) →
    or_found (found_at row d) again (row k) ≡ found_at row (or_next d (cond again (second k) double.none))
found-more row double.none true k = refl
found-more row double.none false k = refl
found-more row (second j) again k = refl

module _ {A : Type 0} {same : A → A → Bool} {key : A → Key} (like : (x y : A) → same_key (key x) (key y) ≡ same x y)
    {bytes w0 n0 w1 n1 : List ℕ} {row : ℕ → ℕ} {xs : List A} {found : Option ℕ} where
  pub seen_more : {k : Key} {again : Bool} {r : Option ℕ} (x : A) (place : ℕ) →
      SeenAll same key bytes w0 n0 row xs found → k ≡ key x → Seen bytes w1 n1 k (map key xs) again →
      place ≡ row (length xs) → r ≡ or_found found again place → SeenAll same key bytes w1 n1 row (xs ++ x ∷ []) r
  seen_more {k} {again} x place a e s p q =
      let all : map key xs ++ k ∷ [] ≡ map key (xs ++ x ∷ []) =
      ap (λ (i : Key). map key xs ++ i ∷ []) e ∙ sym (map_more key xs x) in
      let told : again ≡ stands same x xs =
      s.told ∙ ap (λ (i : Key). stands same_key i (map key xs)) e ∙ stands_by key same same_key like x xs in
      let next = found-more row (first_double same xs) again (length xs) in
      let double = ap (λ (b : Bool). or_next (first_double same xs) (cond b (second (length xs)) double.none)) told ∙
      sym (double_more same xs x) in
      record {
        holds = subst (Holds bytes w1 n1) all s.holds;
        first = q ∙ (λ i. or_found (a.first i) again (p i)) ∙ next ∙ ap (found_at row) double;
      }

-- ## The first fault

-- what was found stands in a row
abbrev pub FoundIn : List ℕ → Option ℕ → Type 0
FoundIn s None = Unit {0}
FoundIn s (Some p) = Begins s p

found_in : (s : List ℕ) (found : Option ℕ) (again : Bool) (place : ℕ) → FoundIn s found → Begins s place →
    FoundIn s (or_found found again place)
found_in s (Some p) again place h b = h
found_in s None true place h b = b
found_in s None false place h b = tt

pub found_next : (s : List ℕ) (found : Option ℕ) {next : Option ℕ} {place : ℕ} →
    ((again : Bool) × (next ≡ or_found found again place)) → FoundIn s found → Begins s place → FoundIn s next
found_next s found {next} {place} (again, e) h b = subst⁻¹ (FoundIn s) e (found_in s found again place h b)

-- the row of the name of the variant at a position
abbrev pub name_row : List ℕ → Cursor → ℕ → ℕ
name_row s from k = (variant_name_at (variant_at k (point s from))).row

faults_told : (s : List ℕ) (from : Cursor) (zs : List ℤ) (d g : Double) → FoundIn s (found_at (name_row s from) d) →
    FoundIn s (found_at (name_row s from) g) →
    FaultAs s (fault_in (point s from)) (or_double name_again d (or_double number_again g (numbers zs)))
    (faults_of (found_at (name_row s from) d) (found_at (name_row s from) g))
faults_told s from zs double.none double.none h i = faultless
faults_told s from zs double.none (second k) h i = lacks refl i
faults_told s from zs (second k) g h i = lacks refl h

-- the variants before c are counted and seen
pub record Sighted (s : List ℕ) (from c : Cursor) (names hashes signs sizes : List ℕ) (z : ℤ) (count : ℕ)
    (name_twice number_twice : Option ℕ) (vs : List Variant) : Type 0 where
  pub first : List Variant
  pub zs : List ℤ
  pub counted : Counted s from c z vs first zs
  pub many : length first ≡ count
  pub named : NamesSeen s names hashes (name_row s from) (variant_names first) name_twice
  pub numbered : IntegersSeen signs sizes (name_row s from) zs number_twice

-- from one turn to the next: the lent slices have their lengths
pub record Sighting (s : List ℕ) (from c : Cursor) (roles₀ names₀ hashes₀ signs₀ sizes₀ : List ℕ)
    (roles names hashes signs sizes : List ℕ) (z : ℤ) (count : ℕ) (name_twice number_twice : Option ℕ) : Type 0 where
  pub in_list : InList s c
  pub roles_kept : length roles ≡ length roles₀
  pub names_kept : length names ≡ length names₀
  pub hashes_kept : length hashes ≡ length hashes₀
  pub signs_kept : length signs ≡ length signs₀
  pub sizes_kept : length sizes ≡ length sizes₀
  pub name_in : FoundIn s name_twice
  pub number_in : FoundIn s number_twice
  pub seen : (vs : List Variant) → InsideAt (every reading.variant) s from vs →
      Sighted s from c names hashes signs sizes z count name_twice number_twice vs

-- tables that are all 0
pub empty_tables : (s : List ℕ) (n : ℕ) {words k : ℕ} → words ≡ 4 * n → n < 65536 → k ≤ n →
    Tables s (replicate words 0) (replicate n 0) (replicate words 0) (replicate n 0) k
empty_tables s n {words} {k} e h i =
    subst⁻¹ (λ (m : ℕ). Tables s (replicate m 0) (replicate n 0) (replicate m 0) (replicate n 0) k) e
    (record {
      named = nothing_seen s n h;
      numbered = nothing_seen MINUS_SIGN n h;
      room = omega (arith, i, length-replicate {A = ℕ} n 0);
      same = refl;
    })

module _ {s : List ℕ} {from : Cursor} {r0 a0 b0 d0 e0 : List ℕ} where
  pub sighting_start : {n : ℕ} → InList s from → Tables s a0 b0 d0 e0 n →
      Sighting s from from r0 a0 b0 d0 e0 r0 a0 b0 d0 e0 BEFORE_FIRST 0 None None
  sighting_start i t =
      record {
        in_list = i;
        roles_kept = refl;
        names_kept = refl;
        hashes_kept = refl;
        signs_kept = refl;
        sizes_kept = refl;
        name_in = tt;
        number_in = tt;
        seen = λ vs k. record {
          first = [];
          zs = [];
          counted = counted_start k;
          many = refl;
          named = record { holds = t.named; first = refl };
          numbered = record { holds = t.numbered; first = refl };
        };
      }

  module _ {c : Cursor} {r1 a1 b1 d1 e1 : List ℕ} {z : ℤ} {count : ℕ} {name_twice number_twice : Option ℕ}
      (l : Sighting s from c r0 a0 b0 d0 e0 r1 a1 b1 d1 e1 z count name_twice number_twice) where
    -- a variant that is read at c
    module _ (p : VariantAt) {r2 : List ℕ} (w : Meets s c r1 r2 (variant_shown s c (Ok (One p))) (on p.next)
        (reading.variant c.row (stream s c))) where
      -- there is room for it
      pub sighting-room : (vs : List Variant) → InsideAt (every reading.variant) s from vs →
          Tables s a0 b0 d0 e0 (length vs) → (count < length b1) × (count < length e1)
      sighting-room vs k t =
          let g = l.seen vs k in
          let o = variant_one p w g.counted in
          let whole : length vs ≡ length (g.first ++ o.first ∷ o.others) =
          ap length (g.counted.split ∙ ap (λ (xs : List Variant). g.first ++ xs) o.split) in
          let size = length-append g.first (o.first ∷ o.others) in (
            omega (arith, whole, size, g.many, t.room, l.hashes_kept),
            omega (arith, whole, size, g.many, t.room, t.same, l.sizes_kept),
          )

      pub sighting-names : (vs : List Variant) → InsideAt (every reading.variant) s from vs →
          (ts : List (List ℕ)) × Holds s a1 b1 (map name_key ts) × (length ts ≡ count)
      sighting-names vs k =
          let g = l.seen vs k in
          (variant_names g.first, g.named.holds, length-map g.first (λ (a : Variant). a.name) ∙ g.many)

      pub sighting-numbers : (vs : List Variant) → InsideAt (every reading.variant) s from vs →
          (zs : List ℤ) × Holds MINUS_SIGN d1 e1 (map integer_key zs) × (length zs ≡ count)
      sighting-numbers vs k =
          let g = l.seen vs k in
          (g.zs, g.numbered.holds, g.counted.even ∙ g.many)

      -- it is counted and seen
      pub sighting-more : {r3 a2 b2 d2 e2 : List ℕ} {name_then number_then : Option ℕ} (y : ℤ) →
          ((a : Variant) → VariantOf s p a → VariantPlaces s c p a → number_after z a.value ≡ number y) →
          ((row : ℕ → ℕ) (ts : List (List ℕ)) (a : Variant) → NamesSeen s a1 b1 row ts name_twice → length ts ≡ count →
          VariantOf s p a → p.place ≡ row count → NamesSeen s a2 b2 row (ts ++ a.name ∷ []) name_then) →
          ((row : ℕ → ℕ) (zs : List ℤ) → IntegersSeen d1 e1 row zs number_twice → length zs ≡ count →
          p.place ≡ row count → IntegersSeen d2 e2 row (zs ++ y ∷ []) number_then) → FoundIn s name_then →
          FoundIn s number_then →
          length r3 ≡ length r1 → length a2 ≡ length a1 → length b2 ≡ length b1 → length d2 ≡ length d1 →
          length e2 ≡ length e1 →
          Sighting s from p.next r0 a0 b0 d0 e0 r3 a2 b2 d2 e2 y (count + 1) name_then number_then
      sighting-more {r3} {a2} {b2} {d2} {e2} {name_then} {number_then} y q see count-it h i er ea eb ed ee =
          record {
            in_list = variant_in p w;
            roles_kept = er ∙ l.roles_kept;
            names_kept = ea ∙ l.names_kept;
            hashes_kept = eb ∙ l.hashes_kept;
            signs_kept = ed ∙ l.signs_kept;
            sizes_kept = ee ∙ l.sizes_kept;
            name_in = h;
            number_in = i;
            seen = more;
          }
        where
          more : (vs : List Variant) → InsideAt (every reading.variant) s from vs →
              Sighted s from p.next a2 b2 d2 e2 y (count + 1) name_then number_then vs
          more vs k =
              let g = l.seen vs k in
              let o = variant_one p w g.counted in
              let v = o.first in
              let row = name_row s from in
              let place : p.place ≡ row count =
              o.shown.1.name.place ∙ ap (λ (x : Point). (variant_name_at x).row) (sym g.counted.place) ∙
              ap row g.many in
              let size = length-append g.first (v ∷ []) in
              let same = length-map g.first (λ (a : Variant). a.name) in
              let names = see row (variant_names g.first) v g.named (same ∙ g.many) o.shown.0 place in
              record {
                first = g.first ++ v ∷ [];
                zs = g.zs ++ y ∷ [];
                counted = counted-more p w g.counted y (q v o.shown.0 o.shown.1);
                many = omega (arith, size, g.many);
                named = subst (λ (ts : List (List ℕ)). NamesSeen s a2 b2 row ts name_then)
                    (sym (map_more (λ (a : Variant). a.name) g.first v)) names;
                numbered = count-it row g.zs g.numbered (g.counted.even ∙ g.many) place;
              }

      -- it has no number
      pub sighting-lacks : {r : Result ℤ Refusal} {q : Refusal} →
          ((a : Variant) → VariantOf s p a → VariantPlaces s c p a →
          NumberAs (λ f. fault_row f (point s c)) (number_after z a.value) r) →
          ((a : Variant) → VariantPlaces s c p a → NumberIn s r) → r ≡ Err q →
          (vs : List Variant) → InsideAt (every reading.variant) s from vs →
          FaultAs s (fault_in (point s from)) (distinct (variant_names vs) (numbers_from BEFORE_FIRST 0 vs))
          (Err q)
      sighting-lacks {r} {q} answer row e vs k =
          let g = l.seen vs k in
          let o = variant_one p w g.counted in
          let fault = number_refused (answer o.first o.shown.0 o.shown.1) e in
          let f = fault.0 in
          let n = length g.first in
          let begins = subst (NumberIn s) e (row o.first o.shown.1) in
          let none = ap (distinct (variant_names vs)) (counted_lacks p w g.counted fault.1) in
          let here : fault_row f (point s c) ≡ fault_in (point s from) f n = ap (fault_row f) (sym g.counted.place) in
          let said = fault.2 ∙ ap (λ (i : ℕ). record { number = fault_number f; place = i }) here in
          subst⁻¹ (λ (ns : Numbers). FaultAs s (fault_in (point s from)) ns (Err q)) none
          (lacks said (subst (Begins s) (ap (λ (i : Refusal). i.place) said) begins))

    -- all are seen
    pub sighting_done : {r2 : List ℕ} {d : Cursor} {sh : Maybe Variant → Type 0} {r : Result Unit Refusal} →
        Meets s c r1 r2 sh (on d) (reading.variant c.row (stream s c)) → ((v : Maybe Variant) → sh v → v ≡ done) →
        r ≡ faults_of name_twice number_twice → (vs : List Variant) → InsideAt (every reading.variant) s from vs →
        FaultAs s (fault_in (point s from)) (distinct (variant_names vs) (numbers_from BEFORE_FIRST 0 vs)) r
    sighting_done {r = r} w g e vs k =
        let t = l.seen vs k in
        let all = counted_done t.counted w g in
        let row = name_row s from in
        let names = first_double same_name (variant_names t.first) in
        let integers = first_double same_integer t.zs in
        let both : distinct (variant_names vs) (numbers_from BEFORE_FIRST 0 vs) ≡
        distinct (variant_names t.first) (numbers t.zs) =
        λ i. distinct (variant_names (all.1 i)) (all.0 i) in
        let answer : faults_of (found_at row names) (found_at row integers) ≡ r =
        (λ i. faults_of (sym t.named.first i) (sym t.numbered.first i)) ∙ sym e in
        let told = faults_told s from t.zs names integers
        (subst (FoundIn s) t.named.first l.name_in) (subst (FoundIn s) t.numbered.first l.number_in) in
        subst⁻¹ (λ (ns : Numbers). FaultAs s (fault_in (point s from)) ns r) both
        (subst (FaultAs s (fault_in (point s from)) (distinct (variant_names t.first) (numbers t.zs))) answer told)

    pub sighting_refused : {B : Type 0} {r2 : List ℕ} {sh : Maybe Variant → Type 0} {n p : ℕ} →
        Meets s c r1 r2 sh (no n p) (reading.variant c.row (stream s c))
        → (vs : List Variant) → InsideAt (every reading.variant) s from vs → B
    sighting_refused w vs k = counted_refused (l.seen vs k).counted w

    -- no variant more was read
    pub sighting_end : {r2 : List ℕ} {r : Result Unit Refusal} (x : Turn VariantAt) →
        Meets s c r1 r2 (variant_shown s c x) (variant_said x) (reading.variant c.row (stream s c)) → NotOne x →
        r ≡ faults_of name_twice number_twice → (vs : List Variant) → InsideAt (every reading.variant) s from vs →
        FaultAs s (fault_in (point s from)) (distinct (variant_names vs) (numbers_from BEFORE_FIRST 0 vs)) r
    sighting_end {r2} {r} x w h e vs k = ended (variant_said x) w
      where
        ended : (y : Said) → Meets s c r1 r2 (variant_shown s c x) y (reading.variant c.row (stream s c)) →
            FaultAs s (fault_in (point s from)) (distinct (variant_names vs) (numbers_from BEFORE_FIRST 0 vs)) r
        ended (on d) w = sighting_done w (variant_end s c x h) e vs k
        ended (no n p) w = sighting_refused w vs k

-- a name's offsets have 16 bits
pub name_standing : {s : List ℕ} {x : Point} {t : Token} {p : ℕ} {text : List ℕ} → length s ≤ MAX_BYTES →
    NameAt s x t p text → (t.start ≤ t.end) × (t.end < MAX_BYTES)
name_standing h n =
    let k = n.token in
    (omega (arith, k.start, k.end.text), omega (arith, k.end.within, h))

-- ## The body

-- by the code's kind
module _ {s : List ℕ} {c : Cursor} {b : Body} {k : DataType} where
  pub struct_known : k ≡ kinds.Struct → InsideAt (reading.body_of (kind_of k)) s c b
      → InsideAt reading.struct_body_lem s c b
  struct_known e i = subst (λ (j : DataType). InsideAt (reading.body_of (kind_of j)) s c b) e i

  pub enum_known : k ≡ kinds.Enum → InsideAt (reading.body_of (kind_of k)) s c b → InsideAt reading.enum_body s c b
  enum_known e i = subst (λ (j : DataType). InsideAt (reading.body_of (kind_of j)) s c b) e i

abbrev body_faults : Body → Numbers
body_faults b = distinct (body_names b) (body_numbers b)

module _ {s : List ℕ} {c : Cursor} {b : Body} where
  pub struct_faultless : InsideAt reading.struct_body_lem s c b → body_faults b ≡ numbers []
  struct_faultless i = ap body_faults (struct_body i).1

  pub enum_faultless : (p : Peeked) → NoGroup s c.at p → InsideAt reading.enum_body s c b → body_faults b ≡ numbers []
  enum_faultless p n i = ap body_faults (enum_none p n i)

module _ {s : List ℕ} {place : Fault → ℕ → ℕ} where
  pub faults_none : {ns : Numbers} → ns ≡ numbers [] → FaultAs s place ns (Ok tt)
  faults_none e = subst⁻¹ (λ (ns : Numbers). FaultAs s place ns (Ok tt)) e faultless

-- those of its variants
pub enum_faults : {s : List ℕ} {p q : Point} {b : Body} {vs : List Variant} {r : Result Unit Refusal} → p ≡ q →
    b ≡ variants vs → FaultAs s (fault_in p) (body_faults (variants vs)) r → FaultAs s (fault_in q) (body_faults b) r
enum_faults {s} {p} {q} {b} {vs} {r} e f t =
    subst (λ (x : Point). FaultAs s (fault_in x) (body_faults b) r) e
    (subst⁻¹ (λ (y : Body). FaultAs s (fault_in p) (body_faults y) r) f t)

-- their number
pub counted_variants : {b : Body} {vs : List Variant} {n : ℕ} → b ≡ variants vs → n ≡ body_count b →
    length (body_names b) ≤ MANY → (length vs ≡ n) × (n ≤ MANY)
counted_variants {vs = vs} {n = n} e q h =
    let count : length vs ≡ n = sym (q ∙ ap body_count e) in
    let names = ap (λ (b : Body). length (body_names b)) e ∙ length-map vs (λ (a : Variant). a.name) in
    (count, omega (arith, count, names, h))

-- a list has no more variants than the tables have room for
pub few_names : {d : Declaration} {rs : List ℕ} {us : Trees} (ts : Trees) → reading.item 0 ts ≡ took d rs us →
    size ts ≤ MAX_ROWS → length (body_names d.body) ≤ MANY
few_names {d} ts e h = omega (arith, item_few 0 ts e, h, count d.body)
  where
    count : (b : Body) → length (body_names b) ≡ variant_count b
    count (fields f) = refl
    count (variants vs) = length-map vs (λ (a : Variant). a.name)
