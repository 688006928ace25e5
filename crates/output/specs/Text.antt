-- The texts of numbers and refusals (document 01, "The listing program").
use Rattle.std.specs.Prelude.{cond, List, [], ◌∷◌, ◌++◌, ℕ, zero, suc, ◌+◌, ◌/◌, ◌%◌, ltb, eqb}
use Rattle.token_list.specs.Byte.{bytes, ZERO, SPACE, LF}
use Rattle.token_list.specs.Check.{END}

-- the digits of n, the most significant first; n itself is enough fuel
abbrev pub digits : ℕ → ℕ → List ℕ
digits zero n = (ZERO + n) ∷ []
digits (suc f) n = cond (ltb n 10) ((ZERO + n) ∷ []) (digits f (n / 10) ++ (ZERO + n % 10) ∷ [])

unfoldable pub decimal : ℕ → List ℕ
decimal n = digits n n

-- a row, or `-` for the end mark
unfoldable pub place_text : ℕ → List ℕ
place_text p = cond (eqb p END) (bytes "-") (decimal p)

-- the line of names before a refusal
abbrev pub REFUSED : List ℕ
REFUSED = bytes "refused place\n"

-- the line of names, and a line with number and place
unfoldable pub refusal_text : ℕ → ℕ → List ℕ
refusal_text n p = REFUSED ++ (decimal n ++ SPACE ∷ (place_text p ++ LF ∷ []))
