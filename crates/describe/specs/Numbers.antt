-- The numbers of an enum's variants (document 02, card 2): the discriminants that the Reference gives them (1.63,
-- "Enumerations", "Custom Discriminant Values"), within i64's range; and that no two variants share a name or a number
-- (card 9).
use Rattle.std.specs.Prelude.{cond, List, [], ◌∷◌, map, ℕ, suc, ◌+◌, ltb, ℤ, pos, negsuc, neg_ℤ, Option, Some, None}
use Rattle.std.proofs.Math.IntN.{suc_ℤ}
use Rattle.reading.specs.Token.{MAX_I64}
use Rattle.reading.specs.Declaration.{Value, absent, literal, negative, Variant, Body, fields, variants, Declaration}
use Rattle.reading.specs.Took.{Point}
use Rattle.reading.specs.Place.{inside, body_at, variant_at, variant_name_at, equals_at}
use Rattle.doubles.specs.Double as double
use Rattle.doubles.specs.Double.{Double, second, first_double}
use Rattle.doubles.specs.Same.{same_name, same_integer}
use Rattle.describe.specs.Integer.{integer, in_range}

-- why a variant has no number, or no name or number of its own
pub data Fault : Type 0 where
  -- its value is no integer, or out of range
  no_integer_lem : Fault
  -- one more than the number before it is out of range
  no_step_lem : Fault
  -- its name is an earlier one's
  name_again : Fault
  -- its number is an earlier one's
  number_again : Fault

-- the refusal's number
abbrev pub fault_number : Fault → ℕ
fault_number no_integer_lem = 42
fault_number no_step_lem = 43
fault_number name_again = 50
fault_number number_again = 51

-- ## One variant

pub data Number : Type 0 where
  number : ℤ → Number
  without : Fault → Number

-- one more than the number before
abbrev pub following : ℤ → Number
following (pos n) = cond (ltb n MAX_I64) (number (pos (suc n))) (without no_step_lem)
following (negsuc n) = number (suc_ℤ (negsuc n))

-- the worth of a literal, with this sign
abbrev pub valued : (ℕ → ℤ) → Option ℕ → Number
valued sign None = without no_integer_lem
valued sign (Some n) = number (sign n)

abbrev pub minus : ℕ → ℤ
minus n = neg_ℤ (pos n)

-- a variant's number by its value, after this number; the reader takes no negative that is out of range
abbrev pub number_after : ℤ → Value → Number
number_after before absent = following before
number_after before (literal t) = valued pos (in_range (integer t))
number_after before (negative n) = valued minus (in_range (Some n))

-- ## All variants

pub data Numbers : Type 0 where
  numbers : List ℤ → Numbers
  -- a variant at fault: why, and its position
  lacking : Fault → ℕ → Numbers

-- a number before others
abbrev pub preceding : ℤ → Numbers → Numbers
preceding z (numbers zs) = numbers (z ∷ zs)
preceding z (lacking f k) = lacking f k

-- the variant at position k, and what follows it
abbrev pub and_then : ℕ → Number → (ℤ → Numbers) → Numbers
and_then k (number z) rest = preceding z (rest z)
and_then k (without f) rest = lacking f k

-- from position k on, after this number: a variant without value is one higher than the one before it
abbrev pub numbers_from : ℤ → ℕ → List Variant → Numbers
numbers_from before k [] = numbers []
numbers_from before k (v ∷ vs) = and_then k (number_after before v.value) (λ z. numbers_from z (k + 1) vs)

-- the first variant follows -1, so that without a value it is 0
abbrev pub BEFORE_FIRST : ℤ
BEFORE_FIRST = negsuc 0

abbrev pub body_numbers : Body → Numbers
body_numbers (fields f) = numbers []
body_numbers (variants vs) = numbers_from BEFORE_FIRST 0 vs

-- ## Variants that share a name or a number

abbrev pub or_double : Fault → Double → Numbers → Numbers
or_double f double.none ns = ns
or_double f (second k) ns = lacking f k

-- where every variant has a number: the first whose name is an earlier one's, or else the first whose number is
abbrev pub distinct : List (List ℕ) → Numbers → Numbers
distinct names (numbers zs) =
    or_double name_again (first_double same_name names)
    (or_double number_again (first_double same_integer zs) (numbers zs))
distinct names (lacking f k) = lacking f k

abbrev pub variant_names : List Variant → List (List ℕ)
variant_names vs = map (λ v. v.name) vs

abbrev pub body_names : Body → List (List ℕ)
body_names (fields f) = []
body_names (variants vs) = variant_names vs

abbrev pub numbers_of : Declaration → Numbers
numbers_of d = distinct (body_names d.body) (body_numbers d.body)

-- ## The place of a refusal

-- of the variant at x: its literal's row, or its name's (wrapped: the opening row)
abbrev pub fault_row : Fault → Point → ℕ
fault_row no_integer_lem x = (equals_at x).row + 1
fault_row no_step_lem x = (variant_name_at x).row
fault_row name_again x = (variant_name_at x).row
fault_row number_again x = (variant_name_at x).row

-- of the variant at position k of those that begin at x
abbrev pub fault_in : Point → Fault → ℕ → ℕ
fault_in x f k = fault_row f (variant_at k x)

-- the same of an item that begins at x
abbrev pub fault_place : Point → Fault → ℕ → ℕ
fault_place x f k = fault_in (inside (body_at x)) f k
