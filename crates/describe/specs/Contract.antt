-- What ties the code's answers to the texts.
use Rattle.std.specs.Prelude.{◌≡◌, List, [], map, ℕ, ◌+◌, ◌-◌, ◌≤◌, ◌<◌, ℤ, length, drop, leb, eqb, Bool, true, false}
use Rattle.std.specs.Prelude.{cond, Option, Some, None, Result, Ok, Err}
use Rattle.std.specs.Option.{option_or}
use Rattle.std.specs.Bool.{then_some}
use Rattle.std.proofs.Math.Seq.{slice}
use Rattle.token_list.specs.Byte.{BRACE}
use Rattle.token_list.specs.Layout.{marked, first_row, text_offset, MAX_BYTES}
use Rattle.token_list.specs.Row.{lines, begun}
use Rattle.token_list.specs.Stream.{row_start}
use Rattle.token_list.specs.declared.check.Cursor.{Cursor}
use Rattle.token_list.specs.declared.check.Refusal.{Refusal}
use Rattle.reading.specs.Declaration as declaration
use Rattle.reading.specs.Reading as reading
use Rattle.output.specs.Contract.{Printed}
use Rattle.output.specs.Answer.{refused, answer_text}
use Rattle.token_list.specs.Place.{OneRefusal}
use Rattle.reading.specs.Took.{Took, took, stopped, Point}
use Rattle.reading.specs.Place.{start, value_row}
use Rattle.parse.specs.Contract.{InsideAt, ValueOf, ValueIn}
use Rattle.parse.specs.declared.variants.ValueAt.{ValueAt}
use Rattle.doubles.specs.Double as double
use Rattle.doubles.specs.Double.{Double, second, first_double}
use Rattle.doubles.specs.Same.{same_name, same_integer}
use Rattle.doubles.specs.Key.{Key, name_key, integer_key}
use Rattle.doubles.specs.Contract.{MINUS_SIGN, Holds}
use Rattle.describe.specs.Value as value
use Rattle.describe.specs.Numbers as numbers
use Rattle.describe.specs.Numbers.{Fault, name_again, number_again, fault_number, fault_place, Numbers, lacking}
use Rattle.describe.specs.Numbers.{numbers_of}
use Rattle.describe.specs.Listing as listing
use Rattle.describe.specs.declared.value.ValuePlace.{ValuePlace}
use Rattle.describe.specs.declared.value.ValuePlace.TheVariants as places

-- ## The answers of value

-- the text from a up to e, empty where there is no such part
abbrev pub part : ℕ → ℕ → List ℕ → List ℕ
part a e s = cond (leb e (length s)) (slice a e s) []

-- a value of the variant that begins at x: what it is, and the row of its literal
pub record ValueAs (s : List ℕ) (x : Point) (r : ValueAt) (v : declaration.Value) : Type 0 where
  pub value : ValueOf s r v
  pub place : ValueIn s (value_row x v) r

-- the part of the list s or of the scratch x that an answer names
abbrev pub part_of : List ℕ → List ℕ → Result (Option ValuePlace) Refusal → List ℕ
part_of s x (Ok None) = []
part_of s x (Ok (Some (places.InList a e))) = part a e s
part_of s x (Ok (Some (places.InScratch n))) = part 0 n x
part_of s x (Err r) = []

-- where the text of a row stands in a list
abbrev pub text_start : List ℕ → ℕ → ℕ
text_start s row = row_start s row + text_offset (marked s)

abbrev pub text_end : List ℕ → ℕ → ℕ
text_end s row = row_start s (row + 1) - 1

-- the answer, as the code tells it
abbrev pub place_of : List ℕ → value.Answer → Result (Option ValuePlace) Refusal
place_of s value.none = Ok None
place_of s (value.in_list row t) = Ok (Some (places.InList (text_start s row) (text_end s row)))
place_of s (value.in_scratch t) = Ok (Some (places.InScratch (length t)))
place_of s (value.refused n p) = Err (record { number = n; place = p })

-- a text of the list is past its first byte and not empty, and the list's last byte is none of it; one of the scratch
-- has 1 to SCRATCH_BYTES bytes
abbrev pub InRange : Result (Option ValuePlace) Refusal → Type 0
InRange (Ok None) = Unit
InRange (Ok (Some (places.InList a e))) = (0 < a) × (a < e) × (e < MAX_BYTES)
InRange (Ok (Some (places.InScratch n))) = (0 < n) × (n ≤ value.SCRATCH_BYTES)
InRange (Err r) = Unit

-- the place, the text that stands there, and the scratch, which was `before` and is `after`
pub record Placed (s before after : List ℕ) (a : value.Answer) (r : Result (Option ValuePlace) Refusal) : Type 0 where
  pub place : r ≡ place_of s a
  pub text : part_of s after r ≡ value.value_text a
  pub range : InRange r
  pub scratch : after ≡ value.scratch before a

-- ## The answers of listing

-- the fields f of a struct's group with the delimiter `delimiter`, whose inside is at c
abbrev pub fields_in : Bool → List ℕ → Cursor → declaration.Fields → Type 0
fields_in true s c f =
    (fs : List declaration.Field) × (f ≡ declaration.named fs) × InsideAt (reading.every reading.named_field) s c fs
fields_in false s c f =
    (fs : List declaration.UnnamedField) × (f ≡ declaration.tuple fs) ×
    InsideAt (reading.every reading.tuple_field) s c fs

abbrev pub StructAt : List ℕ → ℕ → Cursor → declaration.Fields → Type 0
StructAt s delimiter c f = fields_in (eqb delimiter BRACE) s c f

-- ## The numbers

-- a variant's number; or its refusal, at the place that is told of its fault
pub data NumberAs (place : Fault → ℕ) : numbers.Number → Result ℤ Refusal → Type 0 where
  counted : {z : ℤ} → NumberAs place (numbers.number z) (Ok z)
  faulty : {f : Fault} {r : Refusal} → r ≡ record { number = fault_number f; place = place f } →
      NumberAs place (numbers.without f) (Err r)

-- a row of a list
abbrev pub Begins : List ℕ → ℕ → Type 0
Begins s p = p < begun (lines (drop (first_row s) s))

-- a refusal's place is a row
abbrev pub NumberIn : List ℕ → Result ℤ Refusal → Type 0
NumberIn s (Ok z) = Unit {0}
NumberIn s (Err r) = Begins s r.place

abbrev pub FaultsIn : List ℕ → (Fault → ℕ → ℕ) → Numbers → Type 0
FaultsIn s place (numbers.numbers zs) = Unit {0}
FaultsIn s place (lacking f k) = Begins s (place f k)

abbrev pub ItemFaultsIn : List ℕ → Took declaration.Declaration → Type 0
ItemFaultsIn s (took d rs us) = FaultsIn s (fault_place (start s)) (numbers_of d)
ItemFaultsIn s (stopped w n p) = Unit {0}

-- the refusal of the first variant at fault, in a row; or that there is none
pub data FaultAs (s : List ℕ) (place : Fault → ℕ → ℕ) : Numbers → Result Unit Refusal → Type 0 where
  faultless : {zs : List ℤ} → FaultAs s place (numbers.numbers zs) (Ok tt)
  lacks : {f : Fault} {k : ℕ} {r : Refusal} → r ≡ record { number = fault_number f; place = place f k } →
      Begins s (place f k) → FaultAs s place (lacking f k) (Err r)

-- ## Doubles

-- how many variants the large tables have room for: a list has 2,048 at most, since each has two rows or more, but for
-- the last
abbrev pub MANY : ℕ
MANY = 2053

-- where the first double stands, by the row of each position
abbrev pub found_at : (ℕ → ℕ) → Double → Option ℕ
found_at row double.none = None
found_at row (second k) = Some (row k)

-- what was found before, or else this place, where it is that of a double
abbrev pub or_found : Option ℕ → Bool → ℕ → Option ℕ
or_found found again place = option_or found (then_some again place)

-- the things xs were seen: their keys are in the table, and their first double was found
pub record SeenAll {A : Type 0} (same : A → A → Bool) (key : A → Key) (bytes words numbers : List ℕ) (row : ℕ → ℕ)
    (xs : List A) (found : Option ℕ) : Type 0 where
  pub holds : Holds bytes words numbers (map key xs)
  pub first : found ≡ found_at row (first_double same xs)

-- names, which stand in the list s
abbrev pub NamesSeen : (s words numbers : List ℕ) → (ℕ → ℕ) → List (List ℕ) → Option ℕ → Type 0
NamesSeen s words numbers row xs found = SeenAll same_name name_key s words numbers row xs found

abbrev pub IntegersSeen : (words numbers : List ℕ) → (ℕ → ℕ) → List ℤ → Option ℕ → Type 0
IntegersSeen words numbers row zs found = SeenAll same_integer integer_key MINUS_SIGN words numbers row zs found

-- the refusal of the first name that stands twice, or else of the first number
abbrev pub faults_of : Option ℕ → Option ℕ → Result Unit Refusal
faults_of (Some p) n = Err (record { number = fault_number name_again; place = p })
faults_of None (Some p) = Err (record { number = fault_number number_again; place = p })
faults_of None None = Ok tt

-- empty tables with room for n names and n numbers
pub record Tables (s names hashes signs sizes : List ℕ) (n : ℕ) : Type 0 where
  pub named : Holds s names hashes []
  pub numbered : Holds MINUS_SIGN signs sizes []
  pub room : n ≤ length hashes
  pub same : length sizes ≡ length hashes

-- ## The report

-- the report of a list s: the text of the answer, in an output that was `before` and is `after`
pub record Reported (s before after : List ℕ) (r : ℕ) : Type 0 where
  pub text : Printed before after r (answer_text (listing.answer s (length before)))
  -- an output of MOST bytes has room for every listing, so the text is never that of refusal 8
  pub roomy : listing.MOST ≤ length before → Printed before after r (answer_text (listing.full_answer s))
  pub short : r ≤ listing.MOST
  -- what holds of a refusal that is printed
  pub refusal : (n p : ℕ) → listing.answer s (length before) ≡ refused n p → OneRefusal listing.listing_number s n p
