-- Bytes of a source text (Reference 1.63, "Whitespace" and "Tokens"), besides those of token_list/specs/Byte.
use Rattle.std.specs.Prelude.{Bool, not, ◌&&◌, ◌||◌, ℕ, ltb, eqb}
use Rattle.token_list.specs.Byte.{code, bytes, LF, SPACE, UNDERSCORE}
use Rattle.token_list.specs.Text.{member, between, printable, digit_worth}

abbrev pub CR : ℕ
CR = 13

abbrev pub SLASH : ℕ
SLASH = code "/"

abbrev pub STAR : ℕ
STAR = code "*"

abbrev pub BACKSLASH : ℕ
BACKSLASH = code "\\"

abbrev pub DOUBLE_QUOTE : ℕ
DOUBLE_QUOTE = code "\""

abbrev pub BANG : ℕ
BANG = code "!"

-- tab, LF, vertical tab, form feed, CR, space
unfoldable pub blank : ℕ → Bool
blank b = between 9 13 b || eqb b SPACE

-- one that a line comment may hold
unfoldable pub in_line : ℕ → Bool
in_line b = not (eqb b LF)

-- one that the text of a doc line may hold
unfoldable pub in_doc : ℕ → Bool
in_doc b = printable b && not (eqb b DOUBLE_QUOTE || eqb b BACKSLASH)

-- a digit of this radix, or `_`
unfoldable pub in_digits : ℕ → ℕ → Bool
in_digits radix b = eqb b UNDERSCORE || ltb (digit_worth b) radix

-- HEX_DIGIT
abbrev pub hex_digit : ℕ → Bool
hex_digit b = ltb (digit_worth b) 16

-- what opens a group, and what closes one
unfoldable pub opens : ℕ → Bool
opens b = member b (bytes "([{")

unfoldable pub closes : ℕ → Bool
closes b = member b (bytes ")]}")
