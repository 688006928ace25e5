-- Laws on the numbers of variants: one number, and the numbers and lines of variants that are read one after the other.
use mathlib.Core.Path.{◌≡◌, refl, ap, ◌∙◌, sym, subst, subst⁻¹}
use mathlib.Core.Bool.{Bool, true, false, cond}
use mathlib.Core.List.{List, [], ◌∷◌, ◌++◌, append_assoc, append-nil}
use Prim.Native.Nat.{ℕ, zero, suc, ◌+◌, ◌-◌, ◌≤◌, ◌<◌}
use native.Mathlib.Numerals.{add-one}
use native.Mathlib.Omega.{arith}
use borrow.Author.Tests.{ltb-true, lt-ltb, le-leb}
use lib.IntN.{ℤ, pos, negsuc, nat_abs, ◌+ℤ◌, ◌-ℤ◌, suc_ℤ}
use lib.Signed.{lt_z}
use mir.Syntax.{w64}
use mir.Val.{to_z, of_z}
use Rattle.std.specs.Option.{ok_or, option_map}
use Rattle.std.proofs.lemmas.Int.{ints}
use lib.ListN.{length, length-append, get_or-append}
use lib.Dec.{ltb}
use lib.Seq.{slice, get_or_at}
use Rattle.token_list.specs.Contract.{InList}
use Rattle.token_list.specs.Stream.{Trees, end, leaf, group}
use Rattle.token_list.proofs.Starts.{row-begins}
use Rattle.token_list.specs.declared.check.Cursor.{Cursor}
use Rattle.token_list.specs.declared.check.Refusal.{Refusal}
use Rattle.token_list.specs.declared.stream.Token.{Token}
use Rattle.token_list.proofs.Texts.{chosen, passed_over}
use Rattle.output.specs.Text.{decimal}
use Rattle.output.specs.Writes.{Writes}
use Rattle.output.specs.declared.writer.Writer.{Writer}
use Rattle.output.proofs.Writers.{then, unwritten, writes_as}
use Rattle.reading.specs.Token.{MAX_I64, worth}
use Rattle.reading.specs.Declaration.{Value, Variant}
use Rattle.reading.specs.Took.{Point, beyond}
use Rattle.reading.specs.Reading as reading
use Rattle.reading.specs.Reading.{Maybe, done, one, every}
use Rattle.reading.specs.Place.{ident_row, variant_at}
use Rattle.reading.proofs.Conserved.{variant_round}
use Rattle.parse.specs.Contract.{Said, on, no, Meets, stream, point, InsideAt, TokenIn, NameAt, ValueOf}
use Rattle.parse.specs.Contract.{VariantOf, VariantPlaces, variant_shown, variant_said}
use Rattle.parse.specs.declared.variants.ValueAt.TheVariants as value_ats
use Rattle.parse.specs.declared.variants.VariantAt.{VariantAt}
use Rattle.parse.specs.declared.utils.Next.TheVariants.{One}
use Rattle.parse.proofs.Inside.{OneAt, inside-more, inside_done, inside_refused, forward}
use Rattle.parse.proofs.Places.{meets_beyond}
use Rattle.std.specs.Prelude.{Option, Some, None, Result, Ok, Err, SomeIff, FitsSigned}
use Rattle.describe.specs.Integer.{integer, in_range}
use Rattle.describe.specs.Numbers.{Fault, no_integer_lem, no_step_lem, Number, number, without, fault_number, following}
use Rattle.describe.specs.Numbers.{valued, minus, number_after}
use Rattle.describe.specs.Numbers.{Numbers, numbers, lacking, preceding, and_then, numbers_from, BEFORE_FIRST}
use Rattle.describe.specs.Numbers.{name_again, number_again, or_double, distinct, fault_row}
use Rattle.describe.specs.Value.{negative_text}
use Rattle.describe.specs.Listing.{numbered, number_text, variant_lines, variant_line, field_lines}
use Rattle.doubles.specs.Double as double
use Rattle.doubles.specs.Double.{Double, second, first_double}
use Rattle.doubles.specs.Same.{same_name, same_integer}
use Rattle.describe.specs.Contract.{NumberAs, counted, faulty, Begins, NumberIn}
use Rattle.describe.proofs.Worths.{negative_none, negative_some}
use Rattle.describe.proofs.Ends.{Turn, NotOne, variant_end}
use Rattle.describe.proofs.Lined.{numbered_more}

-- ## One number

module _ {place : Fault → ℕ} {x : Number} where
  pub number_is : {z : ℤ} → x ≡ number z → NumberAs place x (Ok z)
  number_is {z} e = subst⁻¹ (λ (y : Number). NumberAs place y (Ok z)) e counted

  pub number_as : {y : Number} {r : Result ℤ Refusal} → x ≡ y → NumberAs place y r → NumberAs place x r
  number_as {r = r} e h = subst⁻¹ (λ (z : Number). NumberAs place z r) e h

  pub number_faulty : {f : Fault} {r : Refusal} → x ≡ without f →
      r ≡ record { number = fault_number f; place = place f } → NumberAs place x (Err r)
  number_faulty {f} {r} e h = subst⁻¹ (λ (y : Number). NumberAs place y (Err r)) e (faulty h)

-- one more than the number before, where i64 has it
one_more : (n : ℕ) → suc_ℤ (negsuc n) ≡ negsuc n +ℤ pos 1
one_more zero = refl
one_more (suc n) = omega (arith, ints)

one_fits : (n : ℕ) → FitsSigned w64 (negsuc n) → FitsSigned w64 (suc_ℤ (negsuc n))
one_fits zero h = record { sfits = omega arith }
one_fits (suc n) h = record { sfits = omega (arith, h.sfits) }

abbrev pub no_step : ℕ → Refusal
no_step p = record { number = 43; place = p }

pub following_is : {p : ℕ} (z : ℤ) (r : Option ℤ) → FitsSigned w64 z →
    SomeIff r (FitsSigned w64 (z +ℤ pos 1)) (z +ℤ pos 1) → NumberAs (λ f. p) (following z) (ok_or r (no_step p))
following_is {p} (pos n) None h k = go (ltb n MAX_I64) refl
  where
    go : (b : Bool) → ltb n MAX_I64 ≡ b → NumberAs (λ f. p) (following (pos n)) (Err (no_step p))
    go true e = absurd (k (record { sfits = omega (arith, ltb-true n MAX_I64 e) }))
    go false e = number_faulty (passed_over _ _ _ e) refl
following_is (pos n) (Some y) h (f, e) =
    let next : pos (suc n) ≡ pos n +ℤ pos 1 = omega (arith, ints) in
    number_is (chosen _ _ _ (lt-ltb n MAX_I64 (omega (arith, f.sfits))) ∙ ap number (next ∙ sym e))
following_is (negsuc n) None h k = absurd (k (subst (FitsSigned w64) (one_more n) (one_fits n h)))
following_is (negsuc n) (Some y) h (f, e) = number_is (ap number (one_more n ∙ sym e))

-- a literal's number, by what the code says of its worth
pub literal_number : {s : List ℕ} {a : Value} (z : ℤ) (t : Token) (row : ℕ) → ValueOf s (value_ats.Literal t row) a →
    number_after z a ≡ valued pos (in_range (integer (slice t.start t.end s)))
literal_number z t row v =
    ap (number_after z) v.2 ∙ ap (λ (x : List ℕ). valued pos (in_range (integer x))) v.1.bytes

-- what the code tells of a literal, by its worth
abbrev pub told_of : ℕ → Option ℤ → Result ℤ Refusal
told_of p w = ok_or w (record { number = 42; place = p })

pub literal_as : {place : Fault → ℕ} {p : ℕ} (w : Option ℕ) → p ≡ place no_integer_lem →
    NumberAs place (valued pos w) (told_of p (option_map pos w))
literal_as None e = faulty (ap (λ (o : ℕ). record { number = 42; place = o }) e)
literal_as (Some n) e = counted

pub literal_in : (s : List ℕ) (p : ℕ) (w : Option ℕ) → Begins s p →
    NumberIn s (told_of p (option_map pos w))
literal_in s p None b = b
literal_in s p (Some n) b = tt

-- as the code computes it
negative_is : (n : ℕ) → n ≤ MAX_I64 → minus n ≡ to_z w64 (of_z w64 (pos 0 -ℤ to_z w64 n))
negative_is zero h = omega (arith, ints)
negative_is (suc n) h = omega (arith, ints)

pub negative_number : {s : List ℕ} {a : Value} {n : ℕ} (z : ℤ) (t : Token) → ValueOf s (value_ats.Negative t) a →
    n ≡ worth (slice t.start t.end s) → n ≤ MAX_I64 →
    number_after z a ≡ number (to_z w64 (of_z w64 (pos 0 -ℤ to_z w64 n)))
negative_number {n = n} z t v e h =
    let same : worth v.0 ≡ n = ap worth v.1.bytes ∙ sym e in
    ap (number_after z) v.3 ∙ ap (λ (k : ℕ). valued minus (in_range (Some k))) same ∙
    ap (valued minus) (chosen _ _ _ (le-leb n MAX_I64 h)) ∙ ap number (negative_is n h)

-- only a step that cannot be made is told of a variant without a value
only_step : (z : ℤ) (f : Fault) → following z ≡ without f → no_step_lem ≡ f
only_step (pos n) f e = go (ltb n MAX_I64) e
  where
    go : (b : Bool) → cond b (number (pos (suc n))) (without no_step_lem) ≡ without f → no_step_lem ≡ f
    go true q = cc
    go false q = cc
only_step (negsuc n) f e = cc

pub following_placed : {p : ℕ} {r : Result ℤ Refusal} (z : ℤ) (x : Point) → p ≡ fault_row no_step_lem x →
    NumberAs (λ f. p) (following z) r → NumberAs (λ f. fault_row f x) (following z) r
following_placed {p} z x q w = go refl w
  where
    go : {y : Number} {r : Result ℤ Refusal} → following z ≡ y → NumberAs (λ f. p) y r →
        NumberAs (λ f. fault_row f x) y r
    go e counted = counted
    go e (faulty {f = f} h) =
        let place : p ≡ fault_row f x = q ∙ ap (λ (g : Fault). fault_row g x) (only_step z f e) in
        faulty (h ∙ ap (λ (o : ℕ). record { number = fault_number f; place = o }) place)

-- the place of a refusal is a row
pub number_in : (s : List ℕ) {p : ℕ} {x : Number} {r : Result ℤ Refusal} → NumberAs (λ f. p) x r → Begins s p →
    NumberIn s r
number_in s counted b = tt
number_in s (faulty h) b = subst⁻¹ (λ (q : Refusal). Begins s q.place) h b

pub token_begins : {s : List ℕ} {row : ℕ} {t : Token} → TokenIn s row t → Begins s row
token_begins {s} {row} {t} k = row-begins s row t.end k.end

pub name-begins : {s : List ℕ} {x : Point} {t : Token} {p : ℕ} {name : List ℕ} → NameAt s x t p name → Begins s p
name-begins {s} {x} n = omega (arith, n.place, low x.row x.stream, token_begins n.token)
  where
    low : (row : ℕ) (ts : Trees) → row ≤ ident_row row ts
    low row end = omega arith
    low row (leaf r us) = omega arith
    low row (group d ts us) = omega arith

-- its text

pub minus-text : (n : ℕ) → number_text (minus n) ≡ negative_text n
unfolding decimal
minus-text zero = sym (negative_none 0 refl)
minus-text (suc n) = sym (negative_some (suc n) (λ e. omega arith))

pub below_text : (z : ℤ) {n : ℕ} → lt_z z (pos 0) ≡ true → n ≡ nat_abs z → number_text z ≡ negative_text n
below_text (pos n) h e = absurd (omega (arith, ltb-true n 0 h))
below_text (negsuc n) h e = minus-text (suc n) ∙ ap negative_text (sym e)

-- what the code's answer tells of the number
pub number_at : {place : Fault → ℕ} {x : Number} {z : ℤ} {r : Result ℤ Refusal} → NumberAs place x r → r ≡ Ok z →
    x ≡ number z
number_at counted e = cc
number_at (faulty h) e = cc

pub number_refused : {place : Fault → ℕ} {x : Number} {q : Refusal} {r : Result ℤ Refusal} → NumberAs place x r →
    r ≡ Err q → (f : Fault) × (x ≡ without f) × (q ≡ record { number = fault_number f; place = place f })
number_refused counted e = let z : ◌≡◌ {A = ℕ} 0 1 = cc in absurd (omega arith)
number_refused {q = q} (faulty {f = f} {r = o} h) e =
    let same : o ≡ q = cc in
    (f, refl, sym same ∙ h)

-- ## Numbers before others

abbrev preceding_all : List ℤ → Numbers → Numbers
preceding_all [] ns = ns
preceding_all (z ∷ zs) ns = preceding z (preceding_all zs ns)

all_more : (zs : List ℤ) (z : ℤ) (ns : Numbers) → preceding_all zs (preceding z ns) ≡ preceding_all (zs ++ z ∷ []) ns
all_more [] z ns = refl
all_more (y ∷ zs) z ns = ap (preceding y) (all_more zs z ns)

all_none : (zs : List ℤ) → preceding_all zs (numbers []) ≡ numbers zs
all_none [] = refl
all_none (z ∷ zs) = ap (preceding z) (all_none zs)

all_lacking : (zs : List ℤ) (f : Fault) (k : ℕ) → preceding_all zs (lacking f k) ≡ lacking f k
all_lacking [] f k = refl
all_lacking (z ∷ zs) f k = ap (preceding z) (all_lacking zs f k)

-- ## Lines

-- the same lines where the numbers of these positions are the same
numbered_as : {A : Type 0} (f g : ℕ → A → List ℕ) (n k : ℕ) (xs : List A) → k + length xs ≤ n →
    ((i : ℕ) (x : A) → i < n → f i x ≡ g i x) → numbered f k xs ≡ numbered g k xs
numbered_as f g n k [] h e = refl
numbered_as f g n k (x ∷ xs) h e =
    λ i. e k x (omega arith) i ++ numbered_as f g n (k + 1) xs (omega arith) e i

-- one variant more, with its number
lines_more : (zs : List ℤ) (vs : List Variant) (z : ℤ) (v : Variant) → length zs ≡ length vs →
    numbered (variant_lines (zs ++ z ∷ [])) 0 (vs ++ v ∷ []) ≡
    numbered (variant_lines zs) 0 vs ++ (variant_line z v ++ field_lines v.fields)
lines_more zs vs z v e =
    numbered_more (variant_lines (zs ++ z ∷ [])) 0 vs v ∙ (λ i. before i ++ last i)
  where
    before : numbered (variant_lines (zs ++ z ∷ [])) 0 vs ≡ numbered (variant_lines zs) 0 vs
    before = numbered_as (variant_lines (zs ++ z ∷ [])) (variant_lines zs) (length zs) 0 vs (omega (arith, e))
        (λ i x h. ap (λ (y : ℤ). variant_line y x ++ field_lines x.fields) (get_or-append zs (z ∷ []) (pos 0) i h))

    last : variant_lines (zs ++ z ∷ []) (0 + length vs) v ≡ variant_line z v ++ field_lines v.fields
    last = ap (λ (y : ℤ). variant_line y v ++ field_lines v.fields)
        (get_or_at zs z [] (pos 0) (0 + length vs) (omega (arith, e)))

-- the point after so many variants and one more
variant_next : (k : ℕ) (x : Point) → variant_at (k + 1) x ≡ beyond reading.variant (variant_at k x)
variant_next k x = ap (λ (n : ℕ). variant_at n x) (add-one k) ∙ go k x
  where
    go : (k : ℕ) (x : Point) → variant_at (suc k) x ≡ beyond reading.variant (variant_at k x)
    go zero x = refl
    go (suc k) x = go k (beyond reading.variant x)

-- the first variants of vs are counted, with the numbers zs, the last of which is z; the others are read at c
pub record Counted (s : List ℕ) (from c : Cursor) (z : ℤ) (vs first : List Variant) (zs : List ℤ) : Type 0 where
  pub others : List Variant
  pub split : vs ≡ first ++ others
  pub even : length zs ≡ length first
  pub inside : InsideAt (every reading.variant) s c others
  pub same : numbers_from BEFORE_FIRST 0 vs ≡ preceding_all zs (numbers_from z (length first) others)
  pub place : variant_at (length first) (point s from) ≡ point s c

-- a variant that is read at c
module _ {s : List ℕ} {c : Cursor} (p : VariantAt) {r1 r2 : List ℕ}
    (w : Meets s c r1 r2 (variant_shown s c (Ok (One p))) (on p.next)
    (reading.variant c.row (stream s c))) where
  abbrev pub Told : Variant → Type 0
  Told a = VariantOf s p a × VariantPlaces s c p a

  told : (v : Maybe Variant) → variant_shown s c (Ok (One p)) v → (a : Variant) × (v ≡ one a) × Told a
  told v h = (h.0, h.1, (h.2, h.3))

  pub variant_less : length s - p.next.at < length s - c.at
  variant_less =
      let n = forward reading.variant variant_round w told in
      omega (arith, n.0, n.1.within)

  pub variant_in : InList s p.next
  variant_in = (forward reading.variant variant_round w told).1

  module _ {from : Cursor} {z : ℤ} {vs first : List Variant} {zs : List ℤ} (t : Counted s from c z vs first zs) where
    pub variant_one : OneAt reading.variant s p.next Told t.others
    variant_one = inside-more reading.variant variant_round t.inside w told

    -- one variant more is counted
    pub counted-more : (y : ℤ) → number_after z variant_one.first.value ≡ number y →
        Counted s from p.next y vs (first ++ variant_one.first ∷ []) (zs ++ y ∷ [])
    counted-more y q =
        let o = variant_one in
        let n = length first in
        let count : length (first ++ o.first ∷ []) ≡ n + 1 = length-append first (o.first ∷ []) in
        let step : numbers_from z n t.others ≡ preceding y (numbers_from y (n + 1) o.others) =
        ap (numbers_from z n) o.split ∙
        ap (λ (x : Number). and_then n x (λ u. numbers_from u (n + 1) o.others)) q in
        record {
          others = o.others;
          split = t.split ∙ ap (λ (ys : List Variant). first ++ ys) o.split ∙
              sym (append_assoc first (o.first ∷ []) o.others);
          even = omega (arith, t.even, count, length-append zs (y ∷ []));
          inside = o.inside;
          same = t.same ∙ ap (preceding_all zs) step ∙ all_more zs y (numbers_from y (n + 1) o.others) ∙
              ap (λ (k : ℕ). preceding_all (zs ++ y ∷ []) (numbers_from y k o.others)) (sym count);
          place = ap (λ (k : ℕ). variant_at k (point s from)) count ∙ variant_next n (point s from) ∙
              ap (beyond reading.variant) t.place ∙ sym (meets_beyond reading.variant w).here;
        }

    -- it has no number
    pub counted_lacks : {f : Fault} → number_after z variant_one.first.value ≡ without f →
        numbers_from BEFORE_FIRST 0 vs ≡ lacking f (length first)
    counted_lacks {f} q =
        let o = variant_one in
        let n = length first in
        t.same ∙ ap (λ (ys : List Variant). preceding_all zs (numbers_from z n ys)) o.split ∙
        ap (λ (x : Number). preceding_all zs (and_then n x (λ u. numbers_from u (n + 1) o.others))) q ∙
        all_lacking zs f n

-- at the last
module _ {s : List ℕ} {from c : Cursor} {z : ℤ} {vs first : List Variant} {zs : List ℤ} {r1 r2 : List ℕ}
    (t : Counted s from c z vs first zs) where
  pub counted_done : {d : Cursor} {sh : Maybe Variant → Type 0} →
      Meets s c r1 r2 sh (on d) (reading.variant c.row (stream s c)) → ((v : Maybe Variant) → sh v → v ≡ done)
      → (numbers_from BEFORE_FIRST 0 vs ≡ numbers zs) × (vs ≡ first)
  counted_done w g =
      let last = inside_done reading.variant variant_round t.inside w g in (
        t.same ∙ ap (λ (ys : List Variant). preceding_all zs (numbers_from z (length first) ys)) last ∙ all_none zs,
        t.split ∙ ap (λ (ys : List Variant). first ++ ys) last ∙ append-nil first,
      )

  pub counted_refused : {B : Type 0} {sh : Maybe Variant → Type 0} {n p : ℕ} →
      Meets s c r1 r2 sh (no n p) (reading.variant c.row (stream s c)) → B
  counted_refused w = inside_refused reading.variant variant_round t.inside w

pub counted_start : {s : List ℕ} {from : Cursor} {vs : List Variant} → InsideAt (every reading.variant) s from vs →
    Counted s from from BEFORE_FIRST vs [] []
counted_start {vs = vs} k =
    record { others = vs; split = refl; even = refl; inside = k; same = refl; place = refl }

-- ## The lines of variants

-- those that are counted have their lines
pub record Written (s : List ℕ) (from c : Cursor) (before now : Writer) (z : ℤ) (vs : List Variant) : Type 0 where
  pub first : List Variant
  pub zs : List ℤ
  pub counted : Counted s from c z vs first zs
  pub text : Writes before now (numbered (variant_lines zs) 0 first)

-- from one turn to the next: the lent roles have their length
pub record Numbering (s : List ℕ) (from c : Cursor) (roles₀ roles : List ℕ) (before now : Writer) (z : ℤ)
    : Type 0 where
  pub in_list : InList s c
  pub roles_kept : length roles ≡ length roles₀
  pub written : (vs : List Variant) → InsideAt (every reading.variant) s from vs →
      Written s from c before now z vs

pub numbers_same : {xs ys : List ℤ} → numbers xs ≡ numbers ys → xs ≡ ys
numbers_same e = cc

pub numbers_not_lacking : {B : Type 0} {zs : List ℤ} {f : Fault} {k : ℕ} → numbers zs ≡ lacking f k → B
numbers_not_lacking e = let z : ◌≡◌ {A = ℕ} 0 1 = cc in absurd (omega arith)

-- where no two variants share a name or a number, the numbers are what they were
pub distinct_is : (P : Numbers → Type 0) → ((f : Fault) (k : ℕ) → P (lacking f k)) → (names : List (List ℕ))
    (ns : Numbers) → P ns → P (distinct names ns)
distinct_is P other names (numbers zs) h = go (first_double same_name names) (first_double same_integer zs)
  where
    go : (d g : Double) → P (or_double name_again d (or_double number_again g (numbers zs)))
    go double.none double.none = h
    go double.none (second k) = other number_again k
    go (second k) g = other name_again k
distinct_is P other names (lacking f k) h = h

pub distinct_numbers : (names : List (List ℕ)) (ns : Numbers) {zs : List ℤ} → distinct names ns ≡ numbers zs →
    ns ≡ numbers zs
distinct_numbers names ns {zs} =
    distinct_is (λ (x : Numbers). x ≡ numbers zs → ns ≡ numbers zs) (λ f k e. numbers_not_lacking (sym e)) names ns
    (λ e. e)

module _ {s : List ℕ} {from : Cursor} {r0 : List ℕ} {b : Writer} where
  pub numbering_start : InList s from → Numbering s from from r0 r0 b b BEFORE_FIRST
  numbering_start i =
      record {
        in_list = i;
        roles_kept = refl;
        written = λ vs k. record { first = []; zs = []; counted = counted_start k; text = unwritten };
      }

  module _ {c : Cursor} {r1 : List ℕ} {n : Writer} {z : ℤ} (l : Numbering s from c r0 r1 b n z) where
    abbrev Lines : List Variant → Type 0
    Lines vs = (zs : List ℤ) → numbers_from BEFORE_FIRST 0 vs ≡ numbers zs →
        Writes b n (numbered (variant_lines zs) 0 vs)

    module _ (p : VariantAt) {r2 : List ℕ} (w : Meets s c r1 r2 (variant_shown s c (Ok (One p))) (on p.next)
        (reading.variant c.row (stream s c))) where
      -- one variant more has its line
      pub numbering-more : {r3 : List ℕ} {x : Writer} (y : ℤ) →
          ((a : Variant) → VariantOf s p a → VariantPlaces s c p a → number_after z a.value ≡ number y) →
          ((a : Variant) → VariantOf s p a → Writes n x (variant_line y a ++ field_lines a.fields)) →
          length r3 ≡ length r1 → Numbering s from p.next r0 r3 b x y
      numbering-more {x = x} y q text e =
          record {
            in_list = variant_in p w;
            roles_kept = e ∙ l.roles_kept;
            written = more;
          }
        where
          more : (vs : List Variant) → InsideAt (every reading.variant) s from vs →
              Written s from p.next b x y vs
          more vs k =
              let t = l.written vs k in
              let o = variant_one p w t.counted in
              let v = o.first in
              record {
                first = t.first ++ v ∷ [];
                zs = t.zs ++ y ∷ [];
                counted = counted-more p w t.counted y (q v o.shown.0 o.shown.1);
                text = writes_as (lines_more t.zs t.first y v t.counted.even)
                    (then t.text (text v o.shown.0));
              }

      -- the variant has no number, though every one has
      pub numbering-lacks : {r : Result ℤ Refusal} {q : Refusal} →
          ((a : Variant) → VariantOf s p a → VariantPlaces s c p a →
          NumberAs (λ f. fault_row f (point s c)) (number_after z a.value) r) → r ≡ Err q →
          (vs : List Variant) → InsideAt (every reading.variant) s from vs → Lines vs
      numbering-lacks answer e vs k zs h =
          let t = (l.written vs k).counted in
          let o = variant_one p w t in
          let fault = number_refused (answer o.first o.shown.0 o.shown.1) e in
          numbers_not_lacking (sym h ∙ counted_lacks p w t fault.1)

    pub numbering_done : {r2 : List ℕ} {d : Cursor} {sh : Maybe Variant → Type 0} →
        Meets s c r1 r2 sh (on d) (reading.variant c.row (stream s c)) → ((v : Maybe Variant) → sh v → v ≡ done)
        → (vs : List Variant) → InsideAt (every reading.variant) s from vs → Lines vs
    numbering_done w g vs k zs h =
        let t = l.written vs k in
        let all = counted_done t.counted w g in
        let same : zs ≡ t.zs = numbers_same (sym h ∙ all.0) in
        writes_as (λ i. numbered (variant_lines (same i)) 0 (all.1 i)) t.text

    pub numbering_refused : {B : Type 0} {r2 : List ℕ} {sh : Maybe Variant → Type 0} {n p : ℕ} →
        Meets s c r1 r2 sh (no n p) (reading.variant c.row (stream s c))
        → (vs : List Variant) → InsideAt (every reading.variant) s from vs → B
    numbering_refused w vs k = counted_refused (l.written vs k).counted w

    -- no variant more was read
    pub numbering_end : {r2 : List ℕ} (x : Turn VariantAt) →
        Meets s c r1 r2 (variant_shown s c x) (variant_said x) (reading.variant c.row (stream s c)) → NotOne x
        → (vs : List Variant) → InsideAt (every reading.variant) s from vs → Lines vs
    numbering_end {r2} x w h vs k = ended (variant_said x) w
      where
        ended : (y : Said) → Meets s c r1 r2 (variant_shown s c x) y (reading.variant c.row (stream s c)) → Lines vs
        ended (on d) w = numbering_done w (variant_end s c x h) vs k
        ended (no n p) w = numbering_refused w vs k
