-- Rows as they are shown.
use Rattle.std.specs.Prelude.{cond, List, [], ◌∷◌, ◌++◌, ℕ, ◌+◌, ◌/◌, ◌%◌, ltb}
use Rattle.token_list.specs.Byte.{bytes, ZERO, SPACE}
use Rattle.token_list.specs.Text.{printable}
use Rattle.output.specs.Text.{decimal}

-- 0 to 9, then a to f
abbrev pub hex_digit : ℕ → ℕ
hex_digit n = cond (ltb n 10) (ZERO + n) (n + 87)

-- a byte from 32 to 126 as it stands, any other as `\xNN`
unfoldable pub shown_byte : ℕ → List ℕ
shown_byte b = cond (printable b) (b ∷ []) (bytes "\\x" ++ hex_digit (b / 16) ∷ hex_digit (b % 16) ∷ [])

abbrev pub shown : List ℕ → List ℕ
shown [] = []
shown (b ∷ bs) = shown_byte b ++ shown bs

-- a blank where n is below the bound
unfoldable pub blank : ℕ → ℕ → List ℕ
blank n bound = cond (ltb n bound) (SPACE ∷ []) []

-- a number in a column of four
unfoldable pub column : ℕ → List ℕ
column n = blank n 1000 ++ (blank n 100 ++ (blank n 10 ++ decimal n))
