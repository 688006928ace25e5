-- What stands in quotes (Reference 1.63, "Tokens": CHAR_LITERAL, STRING_LITERAL, BYTE_LITERAL, BYTE_STRING_LITERAL),
-- each from behind its first quote on. STRING_CONTINUE holds an LF, and such a literal is postponed (document 02,
-- card 1).
use Rattle.std.specs.Prelude.{Bool, not, cond, ◌&&◌, ◌||◌, List, [], ◌∷◌, ℕ, zero, suc, ◌+◌, ◌-◌, ◌*◌, ltb, eqb, drop}
use Rattle.std.specs.Prelude.{get_or}
use Rattle.token_list.specs.Byte.{code, bytes, UNDERSCORE, QUOTE}
use Rattle.token_list.specs.Text.{member, between, printable, digit_worth}
use Rattle.source.specs.Bytes.{BACKSLASH, DOUBLE_QUOTE, hex_digit}
use Rattle.source.specs.Taken.{Taken, takes, fault, after, onward}

-- ## Escapes, from behind their `\`

-- `\x` OCT_DIGIT HEX_DIGIT; in bytes HEX_DIGIT HEX_DIGIT; from behind the `x`
unfoldable pub hex_escape : Bool → List ℕ → Taken
hex_escape byte s =
    cond (ltb (digit_worth (get_or s 0 0)) (cond byte 16 8) && hex_digit (get_or s 1 0)) (takes 2) fault

-- a char's number (proc_macro and core, `char`: no surrogate)
unfoldable pub scalar : ℕ → Bool
scalar v = ltb v 0xD800 || between 0xE000 0x10FFFF v

-- `( HEX_DIGIT _* )` 1 to 6 times and `}`, after so many digits that are worth v
abbrev pub hex_digits : ℕ → ℕ → List ℕ → Taken
hex_digits count v [] = fault
hex_digits count v (b ∷ bs) =
    cond (eqb b (code "}")) (cond (ltb 0 count && scalar v) (takes 1) fault)
    (cond (eqb b UNDERSCORE && ltb 0 count) (after 1 (hex_digits count v bs))
    (cond (hex_digit b && ltb count 6) (after 1 (hex_digits (count + 1) (v * 16 + digit_worth b) bs)) fault))

-- UNICODE_ESCAPE, from behind the `u`
unfoldable pub unicode_escape : List ℕ → Taken
unicode_escape s = cond (eqb (get_or s 0 0) (code "{")) (after 1 (hex_digits 0 0 (drop 1 s))) fault

-- QUOTE_ESCAPE, ASCII_ESCAPE, UNICODE_ESCAPE; or BYTE_ESCAPE
unfoldable pub escape : Bool → List ℕ → Taken
escape byte s =
    cond (member (get_or s 0 0) (bytes "nrt\\0'\"")) (takes 1)
    (cond (eqb (get_or s 0 0) (code "x")) (after 1 (hex_escape byte (drop 1 s)))
    (cond (eqb (get_or s 0 0) (code "u") && not byte) (after 1 (unicode_escape (drop 1 s))) fault))

-- ## Characters and strings

-- a character between these quotes, or an escape
unfoldable pub unit : Bool → ℕ → List ℕ → Taken
unit byte quote s =
    cond (eqb (get_or s 0 0) BACKSLASH) (after 1 (escape byte (drop 1 s)))
    (cond (printable (get_or s 0 0) && not (eqb (get_or s 0 0) quote)) (takes 1) fault)

abbrev pub closing : ℕ → ℕ → List ℕ → Taken
closing quote n s = cond (eqb (get_or s n 0) quote) (takes (n + 1)) fault

-- CHAR_LITERAL, or BYTE_LITERAL
unfoldable pub character : Bool → List ℕ → Taken
character byte s = onward (unit byte QUOTE s) (λ n. closing QUOTE n s)

-- STRING_LITERAL, or BYTE_STRING_LITERAL; the first `skip` bytes are passed over
abbrev pub string : Bool → ℕ → List ℕ → Taken
string byte skip [] = fault
string byte (suc skip) (b ∷ bs) = after 1 (string byte skip bs)
string byte zero (b ∷ bs) =
    cond (eqb b DOUBLE_QUOTE) (takes 1)
    (onward (unit byte DOUBLE_QUOTE (b ∷ bs)) (λ n. after 1 (string byte (n - 1) bs)))
