-- The numbers of a token list (document 01, "The token list"; document 02, card 6): its kinds, names, offsets and
-- limits.
use Rattle.std.specs.Prelude.{Bool, true, false, List, ℕ, eqb, length, get_or}
use Rattle.token_list.specs.Byte.{code, bytes}

-- ## The kinds of rows

abbrev pub IDENT : ℕ
IDENT = code "i"

abbrev pub LITERAL : ℕ
LITERAL = code "l"

abbrev pub PUNCT : ℕ
PUNCT = code "p"

-- a group's opening row
abbrev pub OPEN : ℕ
OPEN = code "o"

-- a group's closing row
abbrev pub CLOSE : ℕ
CLOSE = code "c"

-- ## The two lines of names

-- with a column of marks, or without
abbrev pub names : Bool → List ℕ
names true = bytes "kind joint text\n"
names false = bytes "kind text\n"

-- the first byte in which they differ
abbrev pub NAMES_DIFFER : ℕ
NAMES_DIFFER = 5

-- which of the two a list has, where it has one of them
unfoldable pub marked : List ℕ → Bool
marked s = eqb (get_or s NAMES_DIFFER 0) (code "j")

-- ## Offsets

-- of the first row in a list, past the line of names
unfoldable pub first_row : List ℕ → ℕ
first_row s = length (names (marked s))

-- of the text in a row: past its kind and a space, and with marks its mark and a space
abbrev pub text_offset : Bool → ℕ
text_offset true = 4
text_offset false = 2

-- ## Limits

-- of a list
abbrev pub MAX_BYTES : ℕ
MAX_BYTES = 65536

abbrev pub MAX_ROWS : ℕ
MAX_ROWS = 4096

-- of a row's text
abbrev pub MAX_TEXT : ℕ
MAX_TEXT = 255

-- of the groups that are open at once
abbrev pub MAX_DEPTH : ℕ
MAX_DEPTH = 32
