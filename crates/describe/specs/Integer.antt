-- INTEGER_LITERAL of the Reference (1.63, "Tokens", "Integer literals"), and what such a literal is worth.
use Rattle.std.specs.Prelude.{Bool, true, false, cond, ◌&&◌, ◌||◌, List, [], ◌∷◌, ℕ, ◌+◌, ◌*◌, leb, ltb, eqb, drop}
use Rattle.std.specs.Prelude.{Option, Some, None}
use Rattle.token_list.specs.Byte.{code, bytes, ZERO, UNDERSCORE}
use Rattle.token_list.specs.Text.{same, digit_worth}
use Rattle.reading.specs.Token.{MAX_I64}

-- how many bits an integer type has, in its name
unfoldable pub bits : List ℕ → Bool
bits t =
    same t (bytes "8") || (same t (bytes "16") || (same t (bytes "32")
    || (same t (bytes "64") || (same t (bytes "128") || same t (bytes "size")))))

-- INTEGER_SUFFIX, or nothing
abbrev pub suffix : List ℕ → Bool
suffix [] = true
suffix (b ∷ t) = (eqb b (code "u") || eqb b (code "i")) && bits t

-- after the digits, which are worth n; `any` tells whether there was one
abbrev pub ended : Bool → ℕ → List ℕ → Option ℕ
ended any n t = cond (any && suffix t) (Some n) None

-- digits and `_`, up to the suffix
abbrev pub digits : ℕ → Bool → ℕ → List ℕ → Option ℕ
digits radix any n [] = ended any n []
digits radix any n (b ∷ t) =
    cond (eqb b UNDERSCORE) (digits radix any n t)
    (cond (ltb (digit_worth b) radix) (digits radix true (n * radix + digit_worth b) t) (ended any n (b ∷ t)))

-- the radix that a byte tells after a first 0, or 0
unfoldable pub radix_of : ℕ → ℕ
radix_of b = cond (eqb b (code "b")) 2 (cond (eqb b (code "o")) 8 (cond (eqb b (code "x")) 16 0))

-- that of BIN_LITERAL, OCT_LITERAL or HEX_LITERAL, by the first two bytes; else 0
abbrev pub radix : List ℕ → ℕ
radix [] = 0
radix (a ∷ []) = 0
radix (a ∷ b ∷ t) = cond (eqb a ZERO) (radix_of b) 0

-- DEC_LITERAL begins with a digit
abbrev pub decimal_integer : List ℕ → Option ℕ
decimal_integer [] = None
decimal_integer (b ∷ t) = cond (ltb (digit_worth b) 10) (digits 10 false 0 (b ∷ t)) None

-- INTEGER_LITERAL
unfoldable pub integer : List ℕ → Option ℕ
integer t = cond (eqb (radix t) 0) (decimal_integer t) (digits (radix t) false 0 (drop 2 t))

-- none where it is above i64's range
abbrev pub in_range : Option ℕ → Option ℕ
in_range None = None
in_range (Some n) = cond (leb n MAX_I64) (Some n) None
