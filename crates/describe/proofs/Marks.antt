-- A listing and a variant's value hold no joint marks: they are the same for two lists that are equal but for marks.
use mathlib.Core.Path.{◌≡◌, refl, ap, ◌∙◌, sym, fun_ext}
use mathlib.Core.Bool.{false}
use mathlib.Core.List.{List, [], ◌∷◌, ◌++◌, map}
use Prim.Native.Nat.{ℕ, zero, suc, ◌+◌}
use lib.Dec.{ltb}
use lib.IntN.{ℤ, pos}
use lib.ListN.{length-map, get_or}
use Rattle.token_list.specs.Marks.{stream_of, EqualButMarks}
use Rattle.token_list.proofs.Marks.{same-stream}
use Rattle.output.specs.Text.{decimal}
use Rattle.output.specs.Answer as outputs
use Rattle.reading.specs.Declaration.{Parameter, lifetime, constant, type, Generics, without, angled, parameters_of}
use Rattle.reading.specs.Declaration.{Fields, unit, named, tuple, Value, Variant, Body, fields, variants, Declaration}
use Rattle.reading.specs.Declaration.{fields_count, body_count}
use Rattle.reading.specs.Took.{Took, took, stopped, Point}
use Rattle.reading.specs.Reading.{item}
use Rattle.reading.specs.Place.{start, inside, body_at, variant_at, value_row, literal_row}
use Rattle.reading.specs.Marks.{unmarked_parameter, unmarked_generics, unmarked_unnamed_field, unmarked_field}
use Rattle.reading.specs.Marks.{unmarked_fields, unmarked_variant, unmarked_body, unmarked_declaration, unmarked_took}
use Rattle.reading.specs.Marks.{unmarked_point}
use Rattle.reading.proofs.Marks.{item-same, framed-same, body_at-unmarked, inside-unmarked, variant_at-unmarked}
use Rattle.reading.proofs.Marks.{equals_at-unmarked, variant_name_at-unmarked}
use Rattle.describe.specs.Marks.{ListedAlike}
use Rattle.describe.specs.Numbers.{Fault, no_integer_lem, no_step_lem, name_again, number_again, fault_number}
use Rattle.describe.specs.Numbers.{fault_row}
use Rattle.describe.specs.Numbers.{number_after, Numbers, numbers, lacking, and_then, numbers_from}
use Rattle.describe.specs.Numbers.{BEFORE_FIRST, body_numbers, variant_names, body_names, distinct, numbers_of}
use Rattle.describe.specs.Listing as listing
use Rattle.describe.specs.Listing.{numbered}
use Rattle.describe.specs.Value as value
use Rattle.describe.specs.Value.{SCRATCH_BYTES, value_at, body_value, value_answer, variant_answer}

-- ## The listing

numbered-unmarked : {A : Type 0} (f : ℕ → A → List ℕ) (g : A → A) → ((k : ℕ) (x : A) → f k (g x) ≡ f k x) →
    (k : ℕ) (xs : List A) → numbered f k (map g xs) ≡ numbered f k xs
numbered-unmarked f g e k [] = refl
numbered-unmarked f g e k (x ∷ xs) = λ i. e k x i ++ numbered-unmarked f g e (k + 1) xs i

parameter_lines_unmarked : (g : Generics) → numbered listing.parameter_line 0 (parameters_of (unmarked_generics g))
    ≡ numbered listing.parameter_line 0 (parameters_of g)
parameter_lines_unmarked without = refl
parameter_lines_unmarked (angled ps) = numbered-unmarked listing.parameter_line unmarked_parameter line 0 ps
  where
    line : (k : ℕ) (p : Parameter) → listing.parameter_line k (unmarked_parameter p) ≡ listing.parameter_line k p
    line k (lifetime n b) = refl
    line k (constant n t) = refl
    line k (type n b d) = refl

field_lines-unmarked : (f : Fields) → listing.field_lines (unmarked_fields f) ≡ listing.field_lines f
field_lines-unmarked unit = refl
field_lines-unmarked (named fs) = numbered-unmarked listing.named_line unmarked_field (λ k f. refl) 0 fs
field_lines-unmarked (tuple fs) = numbered-unmarked listing.tuple_line unmarked_unnamed_field (λ k f. refl) 0 fs

body_lines-unmarked : (zs : List ℤ) (b : Body) → listing.body_lines zs (unmarked_body b) ≡ listing.body_lines zs b
body_lines-unmarked zs (fields f) = field_lines-unmarked f
body_lines-unmarked zs (variants vs) = numbered-unmarked (listing.variant_lines zs) unmarked_variant
    (λ k v. ap (λ (t : List ℕ). listing.variant_line (get_or zs k (pos 0)) v ++ t) (field_lines-unmarked v.fields)) 0 vs

fields_count-unmarked : (f : Fields) → fields_count (unmarked_fields f) ≡ fields_count f
fields_count-unmarked unit = refl
fields_count-unmarked (named fs) = length-map fs unmarked_field
fields_count-unmarked (tuple fs) = length-map fs unmarked_unnamed_field

body_count-unmarked : (b : Body) → body_count (unmarked_body b) ≡ body_count b
body_count-unmarked (fields f) = fields_count-unmarked f
body_count-unmarked (variants vs) = length-map vs unmarked_variant

pub listing-unmarked : (zs : List ℤ) (d : Declaration) →
    listing.listing zs (unmarked_declaration d) ≡ listing.listing zs d
unfolding listing.listing
listing-unmarked zs d = λ i.
    (listing.NAMES
    ++ listing.line (listing.kind_text d.kind) d.name (decimal (body_count-unmarked d.body i)))
    ++ (parameter_lines_unmarked d.generics i ++ body_lines-unmarked zs d.body i)

-- ## The numbers

numbers_from-unmarked : (z : ℤ) (k : ℕ) (vs : List Variant) →
    numbers_from z k (map unmarked_variant vs) ≡ numbers_from z k vs
numbers_from-unmarked z k [] = refl
numbers_from-unmarked z k (v ∷ vs) =
    ap (and_then k (number_after z v.value)) (fun_ext (λ y. numbers_from-unmarked y (k + 1) vs))

body_numbers-unmarked : (b : Body) → body_numbers (unmarked_body b) ≡ body_numbers b
body_numbers-unmarked (fields f) = refl
body_numbers-unmarked (variants vs) = numbers_from-unmarked BEFORE_FIRST 0 vs

names-unmarked : (vs : List Variant) → variant_names (map unmarked_variant vs) ≡ variant_names vs
names-unmarked [] = refl
names-unmarked (v ∷ vs) = ap (λ (ns : List (List ℕ)). v.name ∷ ns) (names-unmarked vs)

body_names-unmarked : (b : Body) → body_names (unmarked_body b) ≡ body_names b
body_names-unmarked (fields f) = refl
body_names-unmarked (variants vs) = names-unmarked vs

numbers_of-unmarked : (d : Declaration) → numbers_of (unmarked_declaration d) ≡ numbers_of d
numbers_of-unmarked d = λ i. distinct (body_names-unmarked d.body i) (body_numbers-unmarked d.body i)

-- the point of a variant
variant-unmarked : (x : Point) (k : ℕ) →
    variant_at k (inside (body_at (unmarked_point x))) ≡ unmarked_point (variant_at k (inside (body_at x)))
variant-unmarked x k =
    ap (λ (y : Point). variant_at k (inside y)) (body_at-unmarked x) ∙
    ap (variant_at k) (inside-unmarked (body_at x)) ∙ variant_at-unmarked k (inside (body_at x))

fault_row-unmarked : (f : Fault) (x : Point) → fault_row f (unmarked_point x) ≡ fault_row f x
fault_row-unmarked no_integer_lem x = ap (λ (y : Point). y.row + 1) (equals_at-unmarked x)
fault_row-unmarked no_step_lem x = ap (λ (y : Point). y.row) (variant_name_at-unmarked x)
fault_row-unmarked name_again x = ap (λ (y : Point). y.row) (variant_name_at-unmarked x)
fault_row-unmarked number_again x = ap (λ (y : Point). y.row) (variant_name_at-unmarked x)

numbered_answer-unmarked : (x : Point) (d : Declaration) (ns : Numbers) →
    listing.numbered_answer (unmarked_point x) (unmarked_declaration d) ns ≡ listing.numbered_answer x d ns
numbered_answer-unmarked x d (numbers zs) = ap outputs.wrote (listing-unmarked zs d)
numbered_answer-unmarked x d (lacking f k) =
    ap (outputs.refused (fault_number f))
    (ap (fault_row f) (variant-unmarked x k) ∙ fault_row-unmarked f (variant_at k (inside (body_at x))))

listed-unmarked : (x : Point) (u : Took Declaration) →
    listing.item_answer (unmarked_point x) (unmarked_took unmarked_declaration u) ≡ listing.item_answer x u
listed-unmarked x (took d rs us) =
    ap (listing.numbered_answer (unmarked_point x) (unmarked_declaration d)) (numbers_of-unmarked d) ∙
    numbered_answer-unmarked x d (numbers_of d)
listed-unmarked x (stopped w n p) = refl

-- ## A variant's value

value_at-unmarked : (k : ℕ) (vs : List Variant) → value_at k (map unmarked_variant vs) ≡ value_at k vs
value_at-unmarked k [] = refl
value_at-unmarked zero (v ∷ vs) = refl
value_at-unmarked (suc k) (v ∷ vs) = value_at-unmarked k vs

body_value-unmarked : (k : ℕ) (b : Body) → body_value k (unmarked_body b) ≡ body_value k b
body_value-unmarked k (fields f) = refl
body_value-unmarked k (variants vs) = value_at-unmarked k vs

-- the row of the variant's literal
variant_answer-unmarked : (x : Point) (k : ℕ) (v : Value) → variant_answer (unmarked_point x) k v ≡ variant_answer x k v
variant_answer-unmarked x k v = ap (λ (y : Point). value_answer (value_row y v) v) (variant-unmarked x k) ∙
    ap (λ (y : Point). value_answer (literal_row (y.row + 1) v) v)
    (equals_at-unmarked (variant_at k (inside (body_at x))))

value_made_unmarked : (x : Point) (k : ℕ) (u : Took Declaration) →
    value.item_answer (unmarked_point x) k (unmarked_took unmarked_declaration u) ≡ value.item_answer x k u
value_made_unmarked x k (took d rs us) =
    ap (variant_answer (unmarked_point x) k) (body_value-unmarked k d.body) ∙
    variant_answer-unmarked x k (body_value k d.body)
value_made_unmarked x k (stopped w n p) = refl

-- ## Lists

module _ {s t : List ℕ} (e : EqualButMarks s t) where
  pub full_answers_same : listing.full_answer s ≡ listing.full_answer t
  unfolding listing.full_answer
  full_answers_same = framed-same e (λ a. a) outputs.refused (λ rows. false)
      (listing.item_answer (start s)) (listing.item_answer (start t))
      (sym (listed-unmarked (start s) (item 0 (stream_of s)))
      ∙ (λ i. listing.item_answer (record { row = 0; stream = same-stream e i }) (item-same e i))
      ∙ listed-unmarked (start t) (item 0 (stream_of t)))

  pub answers_same : (n : ℕ) → listing.answer s n ≡ listing.answer t n
  unfolding listing.answer
  answers_same n = ap (outputs.fitted n) full_answers_same

  pub values_same : (k n : ℕ) → value.answer s k n ≡ value.answer t k n
  unfolding value.answer
  values_same k n = framed-same e (λ a. a) value.refused (λ rows. ltb n SCRATCH_BYTES)
      (value.item_answer (start s) k) (value.item_answer (start t) k)
      (sym (value_made_unmarked (start s) k (item 0 (stream_of s)))
      ∙ (λ i. value.item_answer (record { row = 0; stream = same-stream e i }) k (item-same e i))
      ∙ value_made_unmarked (start t) k (item 0 (stream_of t)))

  pub listed_alike : ListedAlike s t
  listed_alike = record { listings = answers_same; values = values_same }
