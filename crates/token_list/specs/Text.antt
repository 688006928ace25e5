-- Bytes and texts (document 01, "The token list").
use Rattle.std.specs.Prelude.{Bool, true, false, not, cond, ◌&&◌, ◌||◌, List, [], ◌∷◌, ℕ, ◌+◌, ◌-◌, leb, eqb}
use Rattle.token_list.specs.Byte.{code, bytes, SPACE, UNDERSCORE, HASH, PARENTHESIS, BRACKET, BRACE}
pub use Rattle.token_list.specs.Byte.{LF}

-- ## Tests on lists of bytes

abbrev pub all : (ℕ → Bool) → List ℕ → Bool
all p [] = true
all p (b ∷ bs) = p b && all p bs

abbrev pub member : ℕ → List ℕ → Bool
member b [] = false
member b (x ∷ xs) = eqb b x || member b xs

abbrev pub same : List ℕ → List ℕ → Bool
same [] [] = true
same [] (y ∷ ys) = false
same (x ∷ xs) [] = false
same (x ∷ xs) (y ∷ ys) = eqb x y && same xs ys

-- ## Classes of bytes, in ASCII

abbrev pub between : ℕ → ℕ → ℕ → Bool
between lo hi b = leb lo b && leb b hi

abbrev pub digit : ℕ → Bool
digit b = between (code "0") (code "9") b

-- a letter or `_`
abbrev pub name_start : ℕ → Bool
name_start b = between (code "a") (code "z") b || (between (code "A") (code "Z") b || eqb b UNDERSCORE)

abbrev pub name_part : ℕ → Bool
name_part b = name_start b || digit b

abbrev pub printable : ℕ → Bool
printable b = between SPACE (code "~") b

abbrev pub punctuation : ℕ → Bool
punctuation b = member b (bytes "=<>!~+-*/%^&|@.,;:#$?'")

abbrev pub literal_start : ℕ → Bool
literal_start b = digit b || member b (bytes "\"'bcr")

abbrev pub opening : ℕ → Bool
opening b = member b (bytes "([{0")

abbrev pub closing : ℕ → Bool
closing b = member b (bytes ")]}0")

-- what closes a group; a 0 closes what a 0 opens
abbrev pub closer : ℕ → ℕ
closer d = cond (eqb d PARENTHESIS) (code ")") (cond (eqb d BRACKET) (code "]") (cond (eqb d BRACE) (code "}") d))

-- ## Texts of the five kinds

abbrev pub plain_name : List ℕ → Bool
plain_name [] = false
plain_name (b ∷ bs) = name_start b && all name_part bs

-- what no `r#` may stand before
abbrev pub never_raw : List ℕ → Bool
never_raw t =
    same t (bytes "crate") || (same t (bytes "self") || (same t (bytes "super")
    || (same t (bytes "Self") || same t (bytes "_"))))

-- `r#` and a name
abbrev pub raw_name : List ℕ → Bool
raw_name [] = false
raw_name (r ∷ []) = false
raw_name (r ∷ h ∷ t) = (eqb r (code "r") && eqb h HASH) && (plain_name t && not (never_raw t))

abbrev pub name : List ℕ → Bool
name t = plain_name t || raw_name t

abbrev pub literal : List ℕ → Bool
literal [] = false
literal (b ∷ bs) = literal_start b && all printable (b ∷ bs)

-- one byte that passes the test
abbrev pub single : (ℕ → Bool) → List ℕ → Bool
single p [] = false
single p (b ∷ []) = p b
single p (b ∷ c ∷ bs) = false

-- ## The worth of digits, for other statements than those on rows

-- what a byte is worth as a digit, 16 where it is none; the Reference's BIN_DIGIT, OCT_DIGIT, DEC_DIGIT and HEX_DIGIT
-- (1.63, "Tokens") are those worth less than the radix
unfoldable pub digit_worth : ℕ → ℕ
digit_worth b =
    cond (between (code "0") (code "9") b) (b - code "0")
    (cond (between (code "a") (code "f") b) (b - code "a" + 10)
    (cond (between (code "A") (code "F") b) (b - code "A" + 10) 16))
