-- Bytes and texts by the characters that they are, in ASCII.
use Rattle.std.specs.Prelude.{List, [], ◌∷◌, ℕ}
pub use Prim.Native.Char.{code}
use Prim.Native.String.{String, [] as empty, ◌∷◌ as ◌and◌}

-- the bytes of an ASCII text; `code "a"` is the byte of one character
abbrev pub bytes : String → List ℕ
bytes empty = []
bytes (◌and◌ c s) = code c ∷ bytes s

abbrev pub LF : ℕ
LF = code "\n"

abbrev pub SPACE : ℕ
SPACE = code " "

abbrev pub UNDERSCORE : ℕ
UNDERSCORE = code "_"

abbrev pub ZERO : ℕ
ZERO = code "0"

abbrev pub ONE : ℕ
ONE = code "1"

-- ## Punctuation

abbrev pub HASH : ℕ
HASH = code "#"

-- the apostrophe of a lifetime
abbrev pub QUOTE : ℕ
QUOTE = code "'"

abbrev pub COMMA : ℕ
COMMA = code ","

abbrev pub MINUS : ℕ
MINUS = code "-"

abbrev pub DOT : ℕ
DOT = code "."

abbrev pub COLON : ℕ
COLON = code ":"

abbrev pub SEMICOLON : ℕ
SEMICOLON = code ";"

abbrev pub LESS : ℕ
LESS = code "<"

abbrev pub EQUALS : ℕ
EQUALS = code "="

abbrev pub GREATER : ℕ
GREATER = code ">"

-- ## Delimiters, each by the byte that opens a group

abbrev pub PARENTHESIS : ℕ
PARENTHESIS = code "("

abbrev pub BRACKET : ℕ
BRACKET = code "["

abbrev pub BRACE : ℕ
BRACE = code "{"
