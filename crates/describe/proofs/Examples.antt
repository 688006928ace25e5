-- What integer literals are worth on the edges of their forms, numbers of variants, and variants that share a name or a
-- number, by computation (document 02, cards 2 and 9).
use mathlib.Core.Path.{◌≡◌, refl}
use mathlib.Core.List.{List, [], ◌∷◌, map}
use Prim.Native.Nat.{ℕ}
use lib.IntN.{pos, negsuc}
use lib.ListN.{replicate}
use Rattle.token_list.specs.Byte.{bytes}
use Rattle.token_list.specs.Text.{digit_worth}
use Rattle.reading.specs.Token.{MAX_I64}
use Rattle.reading.specs.Declaration.{unit, Value, absent, literal, negative, Variant}
use Rattle.std.specs.Prelude.{Some, None}
use Rattle.describe.specs.Integer.{bits, radix_of, integer, in_range}
use Rattle.describe.specs.Numbers.{no_integer_lem, no_step_lem, name_again, number_again, Numbers, numbers, lacking}
use Rattle.describe.specs.Numbers.{numbers_from, BEFORE_FIRST, distinct, variant_names}

-- ## Literals

pub integers : map integer
    (bytes "0" ∷ bytes "007" ∷ bytes "1_" ∷ bytes "1_000u16" ∷ bytes "300u8" ∷ bytes "0b_1" ∷ bytes "0o17" ∷
    bytes "0x1f32" ∷ bytes "0x1_i8" ∷ bytes "0xFfusize" ∷ [])
    ≡ Some 0 ∷ Some 7 ∷ Some 1 ∷ Some 1000 ∷ Some 300 ∷ Some 1 ∷ Some 15 ∷
    Some 7986 ∷ Some 1 ∷ Some 255 ∷ []
unfolding integer digit_worth bits radix_of
integers = refl

pub no_integers : map integer
    (bytes "1f32" ∷ bytes "1e3" ∷ bytes "1.5" ∷ bytes "0x_" ∷ bytes "0b" ∷ bytes "0b2" ∷ bytes "0o8" ∷ bytes "0B1" ∷
    bytes "1u7" ∷ bytes "1u" ∷ bytes "_1" ∷ bytes "\"a\"" ∷ bytes "'a'" ∷ bytes "b'a'" ∷ [])
    ≡ replicate 14 None
unfolding integer digit_worth bits radix_of
no_integers = refl

-- the largest i64, and one more
pub range : map (λ t. in_range (integer t)) (bytes "0x7FFF_FFFF_FFFF_FFFF" ∷ bytes "9223372036854775808" ∷ [])
    ≡ Some MAX_I64 ∷ None ∷ []
unfolding integer digit_worth bits radix_of
range = refl

-- ## Numbers

abbrev variant : Value → Variant
variant v = record { attributes = []; name = []; fields = unit; value = v }

-- document 01's example, in which `Block` is 15, and one variant more
pub valve : numbers_from BEFORE_FIRST 0 (map variant (literal (bytes "14") ∷ absent ∷ negative 2 ∷ absent ∷ []))
    ≡ numbers (pos 14 ∷ pos 15 ∷ negsuc 1 ∷ negsuc 0 ∷ [])
unfolding integer digit_worth bits radix_of
valve = refl

pub from_zero : numbers_from BEFORE_FIRST 0 (map variant (absent ∷ absent ∷ negative 0 ∷ absent ∷ []))
    ≡ numbers (pos 0 ∷ pos 1 ∷ pos 0 ∷ pos 1 ∷ [])
from_zero = refl

-- the first variant without a number is told
pub no_step : numbers_from BEFORE_FIRST 0
    (map variant (literal (bytes "9223372036854775807") ∷ absent ∷ literal (bytes "1.5") ∷ [])) ≡ lacking no_step_lem 1
unfolding integer digit_worth bits radix_of
no_step = refl

pub no_integer : numbers_from BEFORE_FIRST 0
    (map variant (absent ∷ literal (bytes "1.5") ∷ literal (bytes "9223372036854775807") ∷ absent ∷ []))
    ≡ lacking no_integer_lem 1
unfolding integer digit_worth bits radix_of
no_integer = refl

-- ## Doubles

abbrev named : List ℕ → Value → Variant
named n v = record { attributes = []; name = n; fields = unit; value = v }

abbrev judged : List Variant → Numbers
judged vs = distinct (variant_names vs) (numbers_from BEFORE_FIRST 0 vs)

-- `r#` aside
pub same_name : judged (named (bytes "Main") absent ∷ named (bytes "r#Main") absent ∷ []) ≡ lacking name_again 1
same_name = refl

-- one is counted, the other written
pub same_number : judged
    (named (bytes "A") (negative 1) ∷ named (bytes "B") absent ∷ named (bytes "C") (negative 0) ∷ [])
    ≡ lacking number_again 2
same_number = refl

-- all names before any number, and only the first
pub names-first : judged (named (bytes "A") (negative 1) ∷ named (bytes "B") (negative 1) ∷ named (bytes "C") absent ∷
    named (bytes "A") absent ∷ named (bytes "B") absent ∷ []) ≡ lacking name_again 3
names-first = refl

-- after a variant without a number
pub no_number_first : judged (named (bytes "A") absent ∷ named (bytes "A") absent ∷
    named (bytes "B") (literal (bytes "1.5")) ∷ []) ≡ lacking no_integer_lem 2
unfolding integer digit_worth bits radix_of
no_number_first = refl
