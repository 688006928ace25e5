-- A source text cut into parts (Reference 1.63, "Tokens", "Identifiers", "Comments", "Whitespace"; document 02, card
-- 1), as relations written without `lex`. A production is said of its own bytes, and of those that follow where they
-- decide whether it ends there. So what can be longer is as long as it can be, and what begins as a literal or a
-- reserved prefix and is none is no part: no shorter one stands there.
use Rattle.std.specs.Prelude.{◌≡◌, Bool, true, false, not, cond, ◌&&◌, ◌||◌, List, [], ◌∷◌, ◌++◌, ℕ, ◌+◌, ◌*◌, ltb, eqb}
use Rattle.std.specs.Prelude.{length}
use Rattle.token_list.specs.Byte.{code, bytes, LF, UNDERSCORE, ZERO, HASH, QUOTE, DOT, EQUALS, BRACKET}
use Rattle.token_list.specs.Layout.{IDENT, LITERAL, PUNCT, OPEN, CLOSE}
use Rattle.token_list.specs.Text.{all, member, same, digit, name_start, name_part, printable, punctuation, plain_name}
use Rattle.token_list.specs.Text.{never_raw, digit_worth}
use Rattle.token_list.specs.Row.{Row}
use Rattle.token_list.specs.Rows.{ident, punct, opening, closing}
use Rattle.source.specs.Bytes.{CR, SLASH, STAR, BACKSLASH, DOUBLE_QUOTE, BANG, blank, in_line, in_doc, in_digits}
use Rattle.source.specs.Bytes.{hex_digit, opens, closes}
use Rattle.source.specs.Quoted.{scalar}
use Rattle.source.specs.Number.{any_digit, exponent_start}
use Rattle.source.specs.Lex.{Token, Lexed, end, token, row_at, lex}

-- the first byte is there and passes the test
abbrev pub begins : (ℕ → Bool) → List ℕ → Bool
begins p [] = false
begins p (b ∷ bs) = p b

abbrev pub is : ℕ → ℕ → Bool
is c b = eqb b c

-- bytes that pass the test, and no more of them follow
pub record Longest (p : ℕ → Bool) (bs after : List ℕ) : Type 0 where
  pub each : all p bs ≡ true
  pub ended : begins p after ≡ false

-- ## Quotes: CHAR_LITERAL, STRING_LITERAL, BYTE_LITERAL, BYTE_STRING_LITERAL

-- what follows a HEX_DIGIT of `\u{..}`, up to the `}`: its digits, and its bytes
pub data HexDigits : List ℕ → List ℕ → Type 0 where
  close : HexDigits [] (bytes "}")
  line : {ds p : List ℕ} → HexDigits ds p → HexDigits ds (UNDERSCORE ∷ p)
  more : {d : ℕ} {ds p : List ℕ} → hex_digit d ≡ true → HexDigits ds p → HexDigits (d ∷ ds) (d ∷ p)

-- what digits are worth, behind others that are worth v
abbrev pub hex_worth : ℕ → List ℕ → ℕ
hex_worth v [] = v
hex_worth v (d ∷ ds) = hex_worth (v * 16 + digit_worth d) ds

-- the bytes behind a `\`
pub data Escape (byte : Bool) : List ℕ → Type 0 where
  -- QUOTE_ESCAPE, and of ASCII_ESCAPE and BYTE_ESCAPE `\n`, `\r`, `\t`, `\\`, `\0`
  plain : {b : ℕ} → member b (bytes "nrt\\0'\"") ≡ true → Escape byte (b ∷ [])
  -- ASCII_ESCAPE: `\x` OCT_DIGIT HEX_DIGIT. BYTE_ESCAPE: `\x` HEX_DIGIT HEX_DIGIT
  hex : {h l : ℕ} → ltb (digit_worth h) (cond byte 16 8) ≡ true → hex_digit l ≡ true
      → Escape byte (code "x" ∷ h ∷ l ∷ [])
  -- UNICODE_ESCAPE: `\u{` ( HEX_DIGIT _* ) 1 to 6 times `}`
  unicode : {d : ℕ} {ds p : List ℕ} → byte ≡ false → hex_digit d ≡ true → HexDigits ds p
      → ltb (length ds) 6 ≡ true → scalar (hex_worth 0 (d ∷ ds)) ≡ true
      → Escape byte (code "u" ∷ code "{" ∷ d ∷ p)

-- one character between these quotes, or an escape
pub data Unit (byte : Bool) (quote : ℕ) : List ℕ → Type 0 where
  plain : {b : ℕ} → printable b ≡ true → eqb b quote ≡ false → eqb b BACKSLASH ≡ false → Unit byte quote (b ∷ [])
  escape : {p : List ℕ} → Escape byte p → Unit byte quote (BACKSLASH ∷ p)

-- what stands behind the first `"`, up to the one that closes
pub data Body (byte : Bool) : List ℕ → Type 0 where
  close : Body byte (DOUBLE_QUOTE ∷ [])
  more : {u p : List ℕ} → Unit byte DOUBLE_QUOTE u → Body byte p → Body byte (u ++ p)

-- ## Numbers: INTEGER_LITERAL, FLOAT_LITERAL, NUMBER_PSEUDOLITERAL

-- a `.` not immediately followed by `.`, `_` or an XID_Start character
abbrev pub fraction_start : List ℕ → Bool
fraction_start [] = false
fraction_start (b ∷ bs) = eqb b DOT && not (begins (λ c. eqb c DOT || name_start c) bs)

-- a radix, and the byte that tells it behind a first `0`
pub data Radix : ℕ → ℕ → Type 0 where
  binary : Radix 2 (code "b")
  octal : Radix 8 (code "o")
  hex : Radix 16 (code "x")

-- `.` with DEC_LITERAL or alone, or none
pub data Fraction : List ℕ → List ℕ → Type 0 where
  none : {after : List ℕ} → fraction_start after ≡ false → Fraction [] after
  some : {ds after : List ℕ} → fraction_start (DOT ∷ ds ++ after) ≡ true → Longest (in_digits 10) ds after
      → Fraction (DOT ∷ ds) after

pub data Sign : List ℕ → Type 0 where
  none : Sign []
  some : {b : ℕ} → member b (bytes "+-") ≡ true → Sign (b ∷ [])

-- FLOAT_EXPONENT, or none
pub data Exponent : List ℕ → List ℕ → Type 0 where
  none : {after : List ℕ} → begins exponent_start after ≡ false → Exponent [] after
  some : {e : ℕ} {sign ds after : List ℕ} → exponent_start e ≡ true → Sign sign → any_digit ds ≡ true
      → Longest (in_digits 10) ds after → Exponent (e ∷ sign ++ ds) after

pub data Number : List ℕ → List ℕ → Type 0 where
  -- BIN_LITERAL, OCT_LITERAL, HEX_LITERAL; with another digit, an exponent or a fraction behind, RESERVED_NUMBER
  based : {radix c : ℕ} {ds after : List ℕ} → Radix radix c → any_digit ds ≡ true → Longest (in_digits radix) ds after
      → begins digit after ≡ false → begins exponent_start after ≡ false → fraction_start after ≡ false
      → Number (ZERO ∷ c ∷ ds) after
  -- DEC_LITERAL, FLOAT_LITERAL; a `0` before `b`, `o` or `x` begins the others
  decimal : {d : ℕ} {ds fraction exponent after : List ℕ} → digit d ≡ true
      → Longest (in_digits 10) ds (fraction ++ (exponent ++ after))
      → Fraction fraction (exponent ++ after) → Exponent exponent after
      → (same (d ∷ ds) (bytes "0") && begins (λ b. member b (bytes "box")) (fraction ++ (exponent ++ after))) ≡ false
      → Number (d ∷ ds ++ (fraction ++ exponent)) after

-- ## Literals

-- without their suffix
pub data Literal : List ℕ → List ℕ → Type 0 where
  number : {p after : List ℕ} → Number p after → Literal p after
  -- CHAR_LITERAL, BYTE_LITERAL
  character : {u after : List ℕ} → Unit false QUOTE u → Literal (QUOTE ∷ u ++ QUOTE ∷ []) after
  byte : {u after : List ℕ} → Unit true QUOTE u → Literal (code "b" ∷ QUOTE ∷ u ++ QUOTE ∷ []) after
  -- STRING_LITERAL, BYTE_STRING_LITERAL
  string : {p after : List ℕ} → Body false p → Literal (DOUBLE_QUOTE ∷ p) after
  byte_string : {p after : List ℕ} → Body true p → Literal (code "b" ∷ DOUBLE_QUOTE ∷ p) after

-- a name, and no more of it follows
pub record Name (p after : List ℕ) : Type 0 where
  pub form : plain_name p ≡ true
  pub ended : begins name_part after ≡ false

-- SUFFIX: IDENTIFIER_OR_KEYWORD, but no lone `_`
pub data Suffix : List ℕ → List ℕ → Type 0 where
  none : {after : List ℕ} → begins name_start after ≡ false → Suffix [] after
  lone : {after : List ℕ} → begins name_part after ≡ false → Suffix [] (UNDERSCORE ∷ after)
  some : {p after : List ℕ} → Name p after → same p (bytes "_") ≡ false → Suffix p after

-- ## Comments

-- what stands behind a `/*`, up to the `*/` that closes it
pub data Block : List ℕ → Type 0 where
  close : Block (STAR ∷ SLASH ∷ [])
  nested : {p q : List ℕ} → Block p → Block q → Block (SLASH ∷ STAR ∷ p ++ q)
  other : {b : ℕ} {p : List ℕ} → (eqb b STAR && begins (is SLASH) p) ≡ false
      → (eqb b SLASH && begins (is STAR) p) ≡ false → Block p → Block (b ∷ p)

-- behind `//` or `/*`: what makes no doc comment, neither `!` nor a mark that none of some others follows
abbrev pub no_doc : ℕ → (ℕ → Bool) → List ℕ → Bool
no_doc mark again [] = true
no_doc mark again (b ∷ bs) = not (eqb b BANG) && (not (eqb b mark) || begins again bs)

-- where a line ends
pub data LineEnd : List ℕ → Type 0 where
  text : LineEnd []
  lf : {bs : List ℕ} → LineEnd (LF ∷ bs)
  crlf : {bs : List ℕ} → LineEnd (CR ∷ LF ∷ bs)

-- ## Parts

pub data Part : Type 0 where
  -- whitespace, or a comment that vanishes
  gap : List ℕ → Part
  -- a token that is one row, of this kind
  row : ℕ → List ℕ → Part
  -- a name behind `'`
  lifetime : List ℕ → Part
  -- a text behind `///`
  doc : List ℕ → Part

abbrev pub bytes_of : Part → List ℕ
bytes_of (gap p) = p
bytes_of (row k p) = p
bytes_of (lifetime p) = QUOTE ∷ p
bytes_of (doc p) = SLASH ∷ SLASH ∷ SLASH ∷ p

-- a part that stands before these bytes
pub data Stands : Part → List ℕ → Type 0 where
  whitespace : {b : ℕ} {p after : List ℕ} → blank b ≡ true → Longest blank p after → Stands (gap (b ∷ p)) after
  -- LINE_COMMENT
  line : {p after : List ℕ} → no_doc SLASH (is SLASH) p ≡ true → Longest in_line p after
      → Stands (gap (SLASH ∷ SLASH ∷ p)) after
  -- BLOCK_COMMENT
  block : {p after : List ℕ} → no_doc STAR (λ b. eqb b STAR || eqb b SLASH) p ≡ true → Block p
      → Stands (gap (SLASH ∷ STAR ∷ p)) after
  -- OUTER_LINE_DOC
  doc_line : {p after : List ℕ} → begins (is SLASH) p ≡ false → all in_doc p ≡ true → LineEnd after
      → Stands (doc p) after
  -- IDENTIFIER_OR_KEYWORD or `_`; before `"`, `'` or `#` RESERVED_TOKEN_DOUBLE_QUOTE, _SINGLE_QUOTE, _POUND
  name : {p after : List ℕ} → Name p after → begins (λ b. member b (bytes "\"'#")) after ≡ false
      → Stands (row IDENT p) after
  -- RAW_IDENTIFIER
  raw : {p after : List ℕ} → Name p after → never_raw p ≡ false → Stands (row IDENT (code "r" ∷ HASH ∷ p)) after
  -- LIFETIME_TOKEN
  after_quote : {p after : List ℕ} → Name p after → begins (is QUOTE) after ≡ false → Stands (lifetime p) after
  literal : {p suffix after : List ℕ} → Literal p (suffix ++ after) → Suffix suffix after
      → Stands (row LITERAL (p ++ suffix)) after
  opener : {b : ℕ} {after : List ℕ} → opens b ≡ true → Stands (row OPEN (b ∷ [])) after
  closer : {b : ℕ} {after : List ℕ} → closes b ≡ true → Stands (row CLOSE (b ∷ [])) after
  -- one character; `'` begins only what is above, and so does `/` before `/` or `*`
  mark : {b : ℕ} {after : List ℕ} → punctuation b ≡ true → eqb b QUOTE ≡ false
      → (eqb b SLASH && begins (λ c. eqb c SLASH || eqb c STAR) after) ≡ false → Stands (row PUNCT (b ∷ [])) after

-- a text is these parts, one after another
pub data Division : List ℕ → List Part → Type 0 where
  none : Division [] []
  more : {p : Part} {after : List ℕ} {ps : List Part} → Stands p after → Division after ps
      → Division (bytes_of p ++ after) (p ∷ ps)

-- ## The tokens of parts, from an offset on

abbrev pub tokens_at : ℕ → Part → List Token
tokens_at at (gap p) = []
tokens_at at (row k p) = row_at k at p ∷ []
tokens_at at (lifetime p) =
    record { row = punct QUOTE; offset = at; length = 1 }
    ∷ record { row = ident p; offset = at + 1; length = length p } ∷ []
tokens_at at (doc p) =
    here (punct HASH) ∷ here (opening BRACKET) ∷ here (ident (bytes "doc")) ∷ here (punct EQUALS)
    ∷ here (record { kind = LITERAL; joint = false; text = DOUBLE_QUOTE ∷ p ++ DOUBLE_QUOTE ∷ [] })
    ∷ here (closing BRACKET) ∷ []
  where
    here : Row → Token
    here r = record { row = r; offset = at; length = length (bytes_of (doc p)) }

abbrev pub tokens_of : ℕ → List Part → List Token
tokens_of at [] = []
tokens_of at (p ∷ ps) = tokens_at at p ++ tokens_of (at + length (bytes_of p)) ps

-- these tokens, and the text's end
abbrev pub accepted : List Token → Lexed
accepted [] = end
accepted (t ∷ ts) = token t (accepted ts)

-- a text is accepted exactly where a division exists, its tokens are that division's, and it has only one
pub record Divided (s : List ℕ) : Type 0 where
  pub sound : (ts : List Token) → lex s ≡ accepted ts → (ps : List Part) × Division s ps × (ts ≡ tokens_of 0 ps)
  pub complete : (ps : List Part) → Division s ps → lex s ≡ accepted (tokens_of 0 ps)
  pub unique : (ps qs : List Part) → Division s ps → Division s qs → ps ≡ qs
