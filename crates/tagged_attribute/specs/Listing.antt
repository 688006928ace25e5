-- The text that the program `tagged` prints of an answer, in the manner of document 01's "The listing program".
use Rattle.std.specs.Prelude.{List, [], ◌∷◌, ◌++◌, ℕ}
use Rattle.token_list.specs.Byte.{bytes}
use Rattle.output.specs.Text.{refusal_text}
use Rattle.tagged_reading.specs.Entry.{Entry, tag, property}
use Rattle.tagged_reading.specs.Reading.{Answer, none, read, refused}

-- the part, its name, and `-` or the literal as it stands
unfoldable pub entry_line : Entry → List ℕ
entry_line (tag t) = bytes "tag " ++ (t ++ bytes " -\n")
entry_line (property k v) = bytes "property " ++ (k ++ (bytes " " ++ (v ++ bytes "\n")))

abbrev pub entry_lines : List Entry → List ℕ
entry_lines [] = []
entry_lines (e ∷ es) = entry_line e ++ entry_lines es

-- the line of names
abbrev pub NAMES : List ℕ
NAMES = bytes "part name value\n"

-- the one line `none`, the line of names and a line for each entry, or the refusal
abbrev pub answer_text : Answer → List ℕ
answer_text none = bytes "none\n"
answer_text (read es rs) = NAMES ++ entry_lines es
answer_text (refused n p) = refusal_text n p

-- no text is longer: the line of names; the texts of the rows, and 11 bytes for each row; a list has at most 65,536
-- bytes and 4,096 rows
abbrev pub MOST : ℕ
MOST = 110608
