-- Numbers without their suffix (Reference 1.63, "Tokens": INTEGER_LITERAL, FLOAT_LITERAL, NUMBER_PSEUDOLITERAL), and
-- the forms that are reserved (RESERVED_NUMBER).
use Rattle.std.specs.Prelude.{Bool, not, cond, ◌&&◌, ◌||◌, List, ℕ, ◌+◌, eqb, take, drop, get_or}
use Rattle.token_list.specs.Byte.{code, bytes, ZERO, UNDERSCORE, DOT}
use Rattle.token_list.specs.Text.{all, member, digit, name_start}
use Rattle.source.specs.Bytes.{in_digits}
use Rattle.source.specs.Taken.{Taken, takes, fault, after, run}

-- digits and `_`, one digit at least
unfoldable pub any_digit : List ℕ → Bool
any_digit t = not (all (λ b. eqb b UNDERSCORE) t)

-- a `.` not immediately followed by `.`, `_` or an XID_Start character
unfoldable pub dotted : List ℕ → Bool
dotted s = eqb (get_or s 0 0) DOT && not (eqb (get_or s 1 0) DOT || name_start (get_or s 1 0))

abbrev pub exponent_start : ℕ → Bool
exponent_start b = eqb b (code "e") || eqb b (code "E")

-- the radix that a byte tells after a first 0, or 0
unfoldable pub radix_of : ℕ → ℕ
radix_of b = cond (eqb b (code "b")) 2 (cond (eqb b (code "o")) 8 (cond (eqb b (code "x")) 16 0))

-- what no BIN_LITERAL, OCT_LITERAL or HEX_LITERAL stands before: another digit, an exponent, a `.`
unfoldable pub reserved : List ℕ → Bool
reserved s = (digit (get_or s 0 0) || exponent_start (get_or s 0 0)) || dotted s

-- n digits and `_` of a radix
abbrev pub digits_of : ℕ → List ℕ → Taken
digits_of n s = cond (any_digit (take n s) && not (reserved (drop n s))) (takes n) fault

-- BIN_LITERAL, OCT_LITERAL, HEX_LITERAL, from behind their first two bytes
unfoldable pub radix_digits : ℕ → List ℕ → Taken
radix_digits radix s = digits_of (run (in_digits radix) s) s

-- DEC_LITERAL, and `.` with DEC_LITERAL or alone
abbrev pub fraction : ℕ → List ℕ → ℕ
fraction n s = cond (dotted (drop n s)) (n + 1 + run (in_digits 10) (drop (n + 1) s)) n

-- FLOAT_EXPONENT from behind its `e`; a sign takes a byte
abbrev pub sign_length : ℕ → ℕ
sign_length b = cond (member b (bytes "+-")) 1 0

abbrev pub exponent_of : ℕ → List ℕ → Taken
exponent_of n s = cond (any_digit (take n s)) (takes n) fault

unfoldable pub exponent : List ℕ → Taken
exponent s =
    after (sign_length (get_or s 0 0))
    (exponent_of (run (in_digits 10) (drop (sign_length (get_or s 0 0)) s)) (drop (sign_length (get_or s 0 0)) s))

abbrev pub with_exponent : ℕ → List ℕ → Taken
with_exponent n s =
    cond (exponent_start (get_or s n 0)) (after (n + 1) (exponent (drop (n + 1) s))) (takes n)

unfoldable pub decimal : List ℕ → Taken
decimal s = with_exponent (fraction (run (in_digits 10) s) s) s

-- from its first digit on
unfoldable pub number : List ℕ → Taken
number s =
    cond (eqb (get_or s 0 0) ZERO && not (eqb (radix_of (get_or s 1 0)) 0))
    (after 2 (radix_digits (radix_of (get_or s 1 0)) (drop 2 s))) (decimal s)
