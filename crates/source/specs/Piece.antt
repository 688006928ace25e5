-- What a text begins with (Reference 1.63, "Tokens", "Identifiers", "Comments", "Whitespace"; document 02, card 1).
use Rattle.std.specs.Prelude.{true, false, not, cond, ◌&&◌, List, ℕ, ◌+◌, eqb, take, drop, get_or}
use Rattle.token_list.specs.Byte.{bytes, UNDERSCORE, HASH, QUOTE}
use Rattle.token_list.specs.Layout.{IDENT, LITERAL, PUNCT, OPEN, CLOSE}
use Rattle.token_list.specs.Text.{member, same, digit, name_start, name_part, punctuation, never_raw}
use Rattle.source.specs.Bytes.{SLASH, STAR, BANG, DOUBLE_QUOTE, blank, in_line, opens, closes}
use Rattle.source.specs.Taken as taken
use Rattle.source.specs.Taken.{Taken, takes, after, run}
use Rattle.source.specs.Quoted.{character, string}
use Rattle.source.specs.Number.{number}
use Rattle.source.specs.Comment.{block_comment, outer_line, doc_line}

-- each with how many bytes it takes
pub data Piece : Type 0 where
  -- whitespace, or a comment that vanishes
  gap : ℕ → Piece
  -- a token that is one row, of this kind
  row : ℕ → ℕ → Piece
  -- `'` and a name, two rows
  lifetime : ℕ → Piece
  -- a line `///`, six rows
  doc : ℕ → Piece
  -- no token, or one that is postponed
  fault : Piece

-- SUFFIX: a name, but no lone `_`
abbrev pub suffix_of : ℕ → ℕ → ℕ
suffix_of b n = cond (eqb b UNDERSCORE && eqb n 1) 0 n

unfoldable pub suffix : List ℕ → ℕ
suffix s = cond (name_start (get_or s 0 0)) (suffix_of (get_or s 0 0) (run name_part s)) 0

-- a literal with its suffix
abbrev pub literal : List ℕ → Taken → Piece
literal s (takes n) = row LITERAL (n + suffix (drop n s))
literal s taken.fault = fault

-- RAW_IDENTIFIER, with a name of n bytes
unfoldable pub raw_name : ℕ → List ℕ → Piece
raw_name n s =
    cond (name_start (get_or s 2 0) && not (never_raw (take n (drop 2 s)))) (row IDENT (n + 2)) fault

-- n bytes of a name with `"`, `'` or `#` directly behind: RESERVED_TOKEN_DOUBLE_QUOTE, RESERVED_TOKEN_SINGLE_QUOTE and
-- RESERVED_TOKEN_POUND, but for the prefixes of literals and of RAW_IDENTIFIER. Raw strings are postponed.
unfoldable pub prefixed : ℕ → List ℕ → Piece
prefixed n s =
    cond (same (take n s) (bytes "b"))
    (cond (eqb (get_or s 1 0) DOUBLE_QUOTE) (literal s (after 2 (string true 0 (drop 2 s))))
    (cond (eqb (get_or s 1 0) QUOTE) (literal s (after 2 (character true (drop 2 s)))) fault))
    (cond (same (take n s) (bytes "r") && eqb (get_or s 1 0) HASH) (raw_name (run name_part (drop 2 s)) s) fault)

-- IDENTIFIER_OR_KEYWORD or `_`, of n bytes
abbrev pub word_of : ℕ → List ℕ → Piece
word_of n s = cond (member (get_or s n 0) (bytes "\"'#")) (prefixed n s) (row IDENT n)

unfoldable pub word : List ℕ → Piece
word s = word_of (run name_part s) s

-- LIFETIME_TOKEN with a name of n bytes; a quote directly behind is none of a character's
unfoldable pub lifetime_of : ℕ → List ℕ → Piece
lifetime_of n s = cond (name_start (get_or s 1 0) && not (eqb (get_or s (n + 1) 0) QUOTE)) (lifetime (n + 1)) fault

abbrev pub quoted_or : Taken → List ℕ → Piece
quoted_or (takes n) s = literal s (takes (1 + n))
quoted_or taken.fault s = lifetime_of (run name_part (drop 1 s)) s

-- CHAR_LITERAL or LIFETIME_TOKEN
unfoldable pub quote : List ℕ → Piece
quote s = quoted_or (character false (drop 1 s)) s

abbrev pub gap_of : Taken → Piece
gap_of (takes n) = gap n
gap_of taken.fault = fault

abbrev pub doc_of_lem : Taken → Piece
doc_of_lem (takes n) = doc n
doc_of_lem taken.fault = fault

-- LINE_COMMENT and OUTER_LINE_DOC; INNER_LINE_DOC is postponed
unfoldable pub line_comment : List ℕ → Piece
line_comment s =
    cond (eqb (get_or s 2 0) BANG) fault (cond (outer_line s) (doc_of_lem (doc_line s)) (gap (run in_line s)))

-- a comment, or the punctuation `/`
unfoldable pub slash : List ℕ → Piece
slash s =
    cond (eqb (get_or s 1 0) SLASH) (line_comment s)
    (cond (eqb (get_or s 1 0) STAR) (gap_of (block_comment s)) (row PUNCT 1))

-- by its first byte
unfoldable pub single : ℕ → Piece
single b =
    cond (opens b) (row OPEN 1) (cond (closes b) (row CLOSE 1) (cond (punctuation b) (row PUNCT 1) fault))

-- of a text that is not empty
unfoldable pub piece : List ℕ → Piece
piece s =
    cond (blank (get_or s 0 0)) (gap (run blank s))
    (cond (name_start (get_or s 0 0)) (word s)
    (cond (digit (get_or s 0 0)) (literal s (number s))
    (cond (eqb (get_or s 0 0) DOUBLE_QUOTE) (literal s (after 1 (string false 0 (drop 1 s))))
    (cond (eqb (get_or s 0 0) QUOTE) (quote s)
    (cond (eqb (get_or s 0 0) SLASH) (slash s) (single (get_or s 0 0)))))))
