-- No listing is longer than MOST.
use mathlib.Core.Path.{◌≡◌, refl, ap, ◌∙◌, sym}
use mathlib.Core.Bool.{Bool, true, false, cond, true≢false, false≢true}
use mathlib.Core.List.{List, [], ◌∷◌}
use Prim.Native.Nat.{ℕ, zero, suc, ◌+◌, ◌*◌, ◌≤◌, ◌<◌}
use native.Mathlib.Omega.{arith}
use borrow.Author.Tests.{leb-true, ltb-true}
use lib.Dec.{leb, ltb}
use lib.IntN.{ℤ, pos, negsuc}
use lib.ListN.{length, take, get_or, length-append}
use lib.Seq.{length-take-le}
use Rattle.token_list.specs.Layout.{first_row}
use Rattle.token_list.specs.Check as list
use Rattle.token_list.specs.Place.{OneRefusal}
use Rattle.token_list.specs.Stream.{at}
use Rattle.token_list.proofs.Texts.{and_parts}
use Rattle.token_list.proofs.Passed.{passed_list}
use Rattle.token_list.proofs.Bounds as bounds
use Rattle.output.specs.Text.{decimal}
use Rattle.output.specs.Contract.{Printed}
use Rattle.output.specs.Answer.{Answer, wrote, refused, answer_text}
use Rattle.output.specs.Written.{WrittenAs, at_most}
use Rattle.token_list.specs.declared.check.Refusal.{Refusal}
use Rattle.output.proofs.Answers.{Within, fitted_wrote, fitted-same}
use Rattle.output.proofs.Texts.{decimal-within}
use Rattle.reading.specs.Declaration.{Kind, struct, enum, Fields, unit, named, tuple, Value, absent, literal, negative}
use Rattle.reading.specs.Declaration.{Variant, Body, fields, variants, Declaration, parameters_of, body_count}
use Rattle.reading.specs.Token.{MAX_I64}
use Rattle.reading.specs.Place.{start}
use Rattle.reading.specs.Took.{Took, took, stopped}
use Rattle.reading.specs.Reading.{item}
use Rattle.reading.proofs.Frame.{framed_cases}
use Rattle.reading.proofs.Conserved.{own_number_lem, refusal-number, item_conserved}
use Rattle.std.specs.Prelude.{Option, Some, None, Result, Ok, Err}
use Rattle.describe.specs.Integer.{integer, in_range}
use Rattle.describe.specs.Numbers.{Number, number, without, no_integer_lem, no_step_lem, name_again, number_again}
use Rattle.describe.specs.Numbers.{number_after, Numbers, numbers, lacking, preceding, and_then, numbers_from}
use Rattle.describe.specs.Numbers.{following, valued, minus, BEFORE_FIRST, body_numbers, body_names, numbers_of}
use Rattle.describe.proofs.Numbering.{distinct_is}
use Rattle.describe.specs.Listing.{line, numbered, parameter_line, named_line, tuple_line, field_lines, number_text}
use Rattle.describe.specs.Listing.{variant_lines, body_lines, kind_text, listing, numbered_answer, item_answer}
use Rattle.describe.specs.Listing.{full_answer, answer, listing_number, MOST, Fits}
use Rattle.describe.proofs.Worths.{decimal_i64}
use Rattle.describe.specs.Contract.{Reported}
use Rattle.describe.proofs.Costs.{total, parameter_cost, field_cost, type_cost, fields_cost, variant_cost}
use Rattle.describe.proofs.Costs.{body_cost, item_cost_lem, item_cost}

-- ## Lines

line_length : (part name value : List ℕ) → length (line part name value) ≡
    length part + length name + length value + 2
unfolding line
line_length part name value = simp length-append (omega arith)

four_digits : (k : ℕ) → k < 10000 → length (decimal k) ≤ 4
four_digits k h = decimal-within 3 k (omega arith)

-- a cost that covers the lines of a thing; the bounds keep a position to four digits
record Covers {A : Type 0} (f : ℕ → A → List ℕ) (cost : A → ℕ) : Type 0 where
  least : (x : A) → 30 ≤ cost x
  enough : (k : ℕ) (x : A) → k < 10000 → cost x < 200000 → length (f k x) ≤ cost x

module _ {A : Type 0} {f : ℕ → A → List ℕ} {cost : A → ℕ} (p : Covers f cost) where
  numbered_length : (k : ℕ) (xs : List A) → 30 * k + total cost xs < 200000 → length (numbered f k xs) ≤ total cost xs
  numbered_length k [] h = omega arith
  numbered_length k (x ∷ xs) h =
      let least = p.least x in
      omega (
        arith,
        length-append (f k x) (numbered f (k + 1) xs),
        p.enough k x (omega arith) (omega arith),
        numbered_length (k + 1) xs (omega arith),
      )

  count_least : (xs : List A) → 30 * length xs ≤ total cost xs
  count_least [] = omega arith
  count_least (x ∷ xs) = omega (arith, p.least x, count_least xs)

parameters_cover : Covers parameter_line parameter_cost
parameters_cover = record { least = λ p. omega arith; enough = λ k p h g. simp line_length (omega arith) }

named_cover : Covers named_line field_cost
named_cover = record { least = λ f. omega arith; enough = λ k f h g. simp line_length (omega (arith, four_digits k h)) }

tuple_cover : Covers tuple_line type_cost
tuple_cover = record { least = λ t. omega arith; enough = λ k t h g. simp line_length (omega (arith, four_digits k h)) }

fields_length : (f : Fields) → fields_cost f < 200000 → length (field_lines f) ≤ fields_cost f
fields_length unit h = omega arith
fields_length (named fs) h = numbered_length named_cover 0 fs (omega arith)
fields_length (tuple ts) h = numbered_length tuple_cover 0 ts (omega arith)

-- ## Numbers

-- within i64's range, its least aside
abbrev InRange : ℤ → Type 0
InRange (pos n) = n ≤ MAX_I64
InRange (negsuc n) = n < MAX_I64

number_length : (z : ℤ) → InRange z → length (number_text z) ≤ 20
number_length (pos n) h = omega (arith, decimal_i64 n h)
number_length (negsuc n) h = omega (arith, decimal_i64 (suc n) h)

abbrev Ranged : Number → Type 0
Ranged (number z) = InRange z
Ranged (without f) = Unit {0}

following_ranged : (z : ℤ) → InRange z → Ranged (following z)
following_ranged (pos n) h = go (ltb n MAX_I64) refl
  where
    go : (b : Bool) → ltb n MAX_I64 ≡ b → Ranged (cond b (number (pos (suc n))) (without no_step_lem))
    go true e = omega (arith, ltb-true n MAX_I64 e)
    go false e = tt
following_ranged (negsuc zero) h = omega arith
following_ranged (negsuc (suc n)) h = omega arith

valued_ranged : (sign : ℕ → ℤ) → ((n : ℕ) → n ≤ MAX_I64 → InRange (sign n)) → (w : Option ℕ) →
    Ranged (valued sign (in_range w))
valued_ranged sign k None = tt
valued_ranged sign k (Some n) = go (leb n MAX_I64) refl
  where
    go : (b : Bool) → leb n MAX_I64 ≡ b → Ranged (valued sign (cond b (Some n) None))
    go true e = k n (leb-true n MAX_I64 e)
    go false e = tt

minus_ranged : (n : ℕ) → n ≤ MAX_I64 → InRange (minus n)
minus_ranged zero h = omega arith
minus_ranged (suc n) h = omega arith

after_ranged : (z : ℤ) → InRange z → (v : Value) → Ranged (number_after z v)
after_ranged z h absent = following_ranged z h
after_ranged z h (literal t) = valued_ranged pos (λ n k. k) (integer t)
after_ranged z h (negative n) = valued_ranged minus minus_ranged (Some n)

-- every number; past the last stands 0
abbrev AllRanged : Numbers → Type 0
AllRanged (numbers zs) = (k : ℕ) → InRange (get_or zs k (pos 0))
AllRanged (lacking f k) = Unit {0}

preceding_ranged : (z : ℤ) → InRange z → (ns : Numbers) → AllRanged ns → AllRanged (preceding z ns)
preceding_ranged z h (numbers zs) k = at
  where
    at : (i : ℕ) → InRange (get_or (z ∷ zs) i (pos 0))
    at zero = h
    at (suc i) = k i
preceding_ranged z h (lacking f n) k = tt

from_ranged : (z : ℤ) → InRange z → (k : ℕ) (vs : List Variant) → AllRanged (numbers_from z k vs)
from_ranged z h k [] = λ i. omega arith
from_ranged z h k (v ∷ vs) =
    go (number_after z v.value) (after_ranged z h v.value) (λ y r. from_ranged y r (k + 1) vs)
  where
    go : (x : Number) → Ranged x → ((y : ℤ) → InRange y → AllRanged (numbers_from y (k + 1) vs)) →
        AllRanged (and_then k x (λ y. numbers_from y (k + 1) vs))
    go (number y) r next = preceding_ranged y r (numbers_from y (k + 1) vs) (next y r)
    go (without f) r next = tt

body_ranged : (b : Body) → AllRanged (body_numbers b)
body_ranged (fields f) = λ k. omega arith
body_ranged (variants vs) = from_ranged BEFORE_FIRST (omega arith) 0 vs

-- ## The listing

module _ (zs : List ℤ) (ranged : AllRanged (numbers zs)) where
  variants_cover : Covers (variant_lines zs) variant_cost
  variants_cover =
      record {
        least = λ v. omega arith;
        enough = λ k v h g. simp (length-append, line_length) (omega (
          arith,
          number_length (get_or zs k (pos 0)) (ranged k),
          fields_length v.fields (omega arith),
        ));
      }

  body_length : (b : Body) → body_cost b < 200000 → (length (body_lines zs b) ≤ body_cost b) × (body_count b < 10000)
  body_length (fields unit) h = (omega arith, omega arith)
  body_length (fields (named fs)) h = (fields_length (named fs) h, omega (arith, count_least named_cover fs))
  body_length (fields (tuple ts)) h = (fields_length (tuple ts) h, omega (arith, count_least tuple_cover ts))
  body_length (variants vs) h =
      (numbered_length variants_cover 0 vs (omega arith), omega (arith, count_least variants_cover vs))

kind_length : (k : Kind) → length (kind_text k) ≤ 7
kind_length struct = omega arith
kind_length enum = omega arith

listing_length : (zs : List ℤ) → AllRanged (numbers zs) → (d : Declaration) → item_cost_lem d < 200000 →
    length (listing zs d) ≤ 17 + item_cost_lem d
unfolding listing
listing_length zs ranged d h =
    let b = body_length zs ranged d.body (omega arith) in
    simp (length-append, line_length)
    (omega (
      arith,
      kind_length d.kind,
      four_digits (body_count d.body) b.1,
      numbered_length parameters_cover 0 (parameters_of d.generics) (omega arith),
      b.0,
    ))

-- ## The law

abbrev Right : Answer → Type 0
Right (wrote text) = length text ≤ MOST
Right (refused n p) = n ≡ 8 → ⊥

within : (a : Answer) → Right a → Within MOST a
within (wrote text) r = r
within (refused n p) r = tt

module _ (s : List ℕ) where
  by_numbers : (d : Declaration) → item_cost_lem d ≤ 176128 → (ns : Numbers) → AllRanged ns →
      Right (numbered_answer (start s) d ns)
  by_numbers d h (numbers zs) r = omega (arith, listing_length zs r d (omega arith))
  by_numbers d h (lacking no_integer_lem k) r = λ q. omega arith
  by_numbers d h (lacking no_step_lem k) r = λ q. omega arith
  by_numbers d h (lacking name_again k) r = λ q. omega arith
  by_numbers d h (lacking number_again k) r = λ q. omega arith

  by_item : {n : ℕ} → list.check s ≡ list.Answer.passed n → (t : Took Declaration) → item 0 (at s (first_row s)).here
      ≡ t →
      Right (item_answer (start s) t)
  by_item {n} e (took d rs us) f =
      let b = bounds.bounds s e in
      let size = (passed_list s n e).size in
      let c : item_cost_lem d ≤ 176128 =
      omega (arith, item_cost 0 (at s (first_row s)).here f, size, b.texts, b.bytes, b.rows) in
      let ranged = distinct_is AllRanged (λ f k. tt) (body_names d.body) (body_numbers d.body)
      (body_ranged d.body) in
      by_numbers d c (numbers_of d) ranged
  by_item e (stopped w n p) f = λ q. true≢false
      (sym (refusal-number (item_conserved (at s (first_row s)).here f)) ∙ ap own_number_lem q)

  right : Right (full_answer s)
  unfolding full_answer
  right =
      framed_cases Right refused (λ rows. false) (item_answer (start s)) s
      (λ n p e q. omega (arith, leb-true n 7 (and_parts (leb 1 n) (leb n 7) (bounds.check-refusal s n p e).one).1))
      (λ rows e h. absurd (false≢true h)) (λ rows e h. by_item e)

  pub fits : (n : ℕ) → Fits s n
  unfolding answer
  fits n =
      record {
        longest = λ text e. rw (fitted_wrote n (full_answer s) e) at right;
        room = λ h. fitted-same n (full_answer s) (within (full_answer s) right) h;
        never = λ h p e. (rw (sym (fitted-same n (full_answer s) (within (full_answer s) right) h) ∙ e) at right) refl;
      }

  -- what is written in any output
  module _ {x y : List ℕ} {n : ℕ} where
    pub reported : Printed x y n (answer_text (answer s (length x))) → n ≤ MOST
        → ((m p : ℕ) → answer s (length x) ≡ refused m p → OneRefusal listing_number s m p) → Reported s x y n
    reported p short refusal =
        record { text = p; roomy = λ h. rw ((fits (length x)).room h) at p; short = short; refusal = refusal }

  -- no text that is printed is longer
  pub answer_length : {x y : List ℕ} (r : Result ℕ Refusal) → WrittenAs x y (answer s (length x)) r → at_most r ≤ MOST
  answer_length {x} {y} (Ok n) l = omega
      (arith, (fits (length x)).longest (take n y) (sym l.answer), length-take-le n y l.room)
  answer_length (Err r) l = omega arith
