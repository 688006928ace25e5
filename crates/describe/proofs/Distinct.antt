-- A listing that was written has no two variants of one name, `r#` aside, and no two of one number.
use mathlib.Core.Path.{◌≡◌, refl, ap, ◌∙◌, sym, subst}
use mathlib.Core.Bool.{false, false≢true}
use mathlib.Core.List.{List, [], ◌∷◌, map}
use Prim.Native.Nat.{ℕ, suc, ◌+◌}
use native.Mathlib.Omega.{arith}
use lib.IntN.{ℤ, pos}
use lib.ListN.{length}
use Rattle.token_list.specs.Layout.{first_row}
use Rattle.token_list.specs.Stream.{at}
use Rattle.output.specs.Answer.{Answer, wrote, refused}
use Rattle.output.proofs.Answers.{fitted_wrote}
use Rattle.reading.specs.Declaration.{Declaration, Variant, Body, fields, variants}
use Rattle.reading.specs.Took.{Took, took, stopped}
use Rattle.reading.specs.Reading.{item}
use Rattle.reading.specs.Place.{start}
use Rattle.reading.proofs.Frame.{framed_cases}
use Rattle.doubles.specs.Double as double
use Rattle.doubles.specs.Double.{Double, second, first_double, Different, Told}
use Rattle.doubles.specs.Same.{bare, same_name, same_integer}
use Rattle.doubles.proofs.Doubles.{double_told}
use Rattle.doubles.proofs.Keys.{name_equal, equal_name, integer_equal, equal_integer}
use Rattle.describe.specs.Numbers.{name_again, number_again, Number, number, without, number_after, Numbers, numbers}
use Rattle.describe.specs.Numbers.{lacking, preceding, and_then, numbers_from, BEFORE_FIRST, body_numbers, or_double}
use Rattle.describe.specs.Numbers.{distinct, variant_names, body_names, numbers_of}
use Rattle.describe.specs.Listing.{numbered_answer, item_answer, full_answer, answer, Distinct}
use Rattle.describe.proofs.Numbering.{numbers_same, numbers_not_lacking}

-- every variant has a number, and nothing stands twice
none_twice : (names : List (List ℕ)) (ns : Numbers) {zs : List ℤ} → distinct names ns ≡ numbers zs →
    (ns ≡ numbers zs) × (first_double same_name names ≡ double.none) × (first_double same_integer zs ≡ double.none)
none_twice names (numbers ys) {zs} e = go (first_double same_name names) (first_double same_integer ys) refl refl e
  where
    go : (d g : Double) → first_double same_name names ≡ d → first_double same_integer ys ≡ g →
        or_double name_again d (or_double number_again g (numbers ys)) ≡ numbers zs →
        (numbers ys ≡ numbers zs) × (first_double same_name names ≡ double.none) ×
        (first_double same_integer zs ≡ double.none)
    go double.none double.none p q e = (e, p, ap (first_double same_integer) (sym (numbers_same e)) ∙ q)
    go double.none (second k) p q e = numbers_not_lacking (sym e)
    go (second k) g p q e = numbers_not_lacking (sym e)
none_twice names (lacking f k) e = numbers_not_lacking (sym e)

-- one number more than what follows has
each_more : (k n : ℕ) (x : Number) (rest : ℤ → Numbers) {zs : List ℤ} →
    ((z : ℤ) (ys : List ℤ) → rest z ≡ numbers ys → length ys ≡ n) → and_then k x rest ≡ numbers zs → length zs ≡ suc n
each_more k n (number z) rest {zs} h e = go (rest z) (h z) e
  where
    go : (ns : Numbers) → ((ys : List ℤ) → ns ≡ numbers ys → length ys ≡ n) → preceding z ns ≡ numbers zs →
        length zs ≡ suc n
    go (numbers ys) h e = ap length (sym (numbers_same e)) ∙ ap suc (h ys refl)
    go (lacking f i) h e = numbers_not_lacking (sym e)
each_more k n (without f) rest h e = numbers_not_lacking (sym e)

each_from : (before : ℤ) (k : ℕ) (vs : List Variant) (zs : List ℤ) → numbers_from before k vs ≡ numbers zs →
    length zs ≡ length (map bare (variant_names vs))
each_from before k [] zs e = ap length (sym (numbers_same e))
each_from before k (v ∷ vs) zs e =
    each_more k (length (map bare (variant_names vs))) (number_after before v.value) (λ z. numbers_from z (k + 1) vs)
    (λ z. each_from z (k + 1) vs) e

each_numbered : (b : Body) {zs : List ℤ} → body_numbers b ≡ numbers zs → length zs ≡ length (map bare (body_names b))
each_numbered (fields f) e = ap length (sym (numbers_same e))
each_numbered (variants vs) {zs} e = each_from BEFORE_FIRST 0 vs zs e

map_id : {A : Type 0} (xs : List A) → map (λ x. x) xs ≡ xs
map_id [] = refl
map_id (x ∷ xs) = ap (λ ys. x ∷ ys) (map_id xs)

names_differ : (ns : List (List ℕ)) → first_double same_name ns ≡ double.none →
    Different [] (length (map bare ns)) (map bare ns)
names_differ ns e = subst (Told [] (map bare ns)) e (double_told bare same_name name_equal equal_name [] ns)

numbers_differ : (zs : List ℤ) → first_double same_integer zs ≡ double.none → Different (pos 0) (length zs) zs
numbers_differ zs e =
    let told = double_told (λ z. z) same_integer integer_equal equal_integer (pos 0) zs in
    subst (Told (pos 0) zs) e (subst (λ ys. Told (pos 0) ys (first_double same_integer zs)) (map_id zs) told)

module _ (s text : List ℕ) where
  abbrev Written : Answer → Type 0
  Written a = a ≡ wrote text → Distinct s text

  by_numbers : (d : Declaration) {rs : List ℕ} {us : _} → item 0 (at s (first_row s)).here ≡ took d rs us →
      (ns : Numbers) → numbers_of d ≡ ns → Written (numbered_answer (start s) d ns)
  by_numbers d {rs} {us} e (numbers zs) f q =
      let apart = none_twice (body_names d.body) (body_numbers d.body) f in
      record {
        declaration = d;
        zs = zs;
        roles = rs;
        rest = us;
        read = e;
        each = each_numbered d.body apart.0;
        listed = text_same q;
        names = names_differ (body_names d.body) apart.1;
        numbers = numbers_differ zs apart.2;
      }
    where
      text_same : {x y : List ℕ} → wrote x ≡ wrote y → y ≡ x
      text_same e = cc
  by_numbers d e (lacking f k) g q = let z : ◌≡◌ {A = ℕ} 0 1 = cc in absurd (omega arith)

  by_item : (t : Took Declaration) → item 0 (at s (first_row s)).here ≡ t → Written (item_answer (start s) t)
  by_item (took d rs us) e q = by_numbers d e (numbers_of d) refl q
  by_item (stopped w n p) e q = let z : ◌≡◌ {A = ℕ} 0 1 = cc in absurd (omega arith)

  full : Written (full_answer s)
  unfolding full_answer
  full =
      framed_cases Written refused (λ rows. false) (item_answer (start s)) s
      (λ n p e q. let z : ◌≡◌ {A = ℕ} 0 1 = cc in absurd (omega arith))
      (λ rows e h. absurd (false≢true h)) (λ rows e h. by_item)

  pub distinct-listed : (n : ℕ) → answer s n ≡ wrote text → Distinct s text
  unfolding answer
  distinct-listed n e = full (fitted_wrote n (full_answer s) e)
