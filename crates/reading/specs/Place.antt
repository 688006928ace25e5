-- Where the parts of a declaration stand: each is told by the readers of what stands before it (document 01, "Role
-- grammar").
use Rattle.std.specs.Prelude.{Bool, false, cond, ◌||◌, List, ℕ, zero, suc, ◌+◌}
use Rattle.token_list.specs.Byte.{QUOTE}
use Rattle.token_list.specs.Layout.{first_row}
use Rattle.token_list.specs.Row.{Row}
use Rattle.token_list.specs.Stream.{Trees, end, leaf, group, at}
use Rattle.reading.specs.Role as role
use Rattle.reading.specs.Token.{starts, is_punct, is_word, group_size, CONST, Stops}
use Rattle.reading.specs.Declaration.{Value, absent, literal, negative}
use Rattle.reading.specs.Took.{Took, took, stopped, Reader, pure, Point, beyond, ◌>>=◌}
use Rattle.reading.specs.Reading.{RunEnd, at_end, ended, run_from, attributes, visibility, word, named!, named_kind}
use Rattle.reading.specs.Reading.{data_type, generics, clause, variant_fields, variant}

-- the ident of a word: in the word's own row, or inside what wraps it
abbrev pub ident_row : ℕ → Trees → ℕ
ident_row row end = row
ident_row row (leaf r us) = row
ident_row row (group d ts us) = row + 1

abbrev pub word_row : Point → ℕ
word_row x = ident_row x.row x.stream

-- past the token that stands first
abbrev pub token_end : ℕ → Trees → Point
token_end row end = record { row = row; stream = end }
token_end row (leaf r us) = record { row = row + 1; stream = us }
token_end row (group d ts us) = record { row = row + group_size ts; stream = us }

abbrev pub past_token_lem : Point → Point
past_token_lem x = token_end x.row x.stream

-- the first row of a list
abbrev pub start : List ℕ → Point
start s = record { row = 0; stream = (at s (first_row s)).here }

-- the inside of a group that stands at a point
abbrev pub inside_of : ℕ → Trees → Point
inside_of row end = record { row = row; stream = end }
inside_of row (leaf r us) = record { row = row; stream = end }
inside_of row (group d ts us) = record { row = row + 1; stream = ts }

abbrev pub inside : Point → Point
inside x = inside_of x.row x.stream

-- ## A run: how it ends

abbrev pub end_of : Took RunEnd → RunEnd
end_of (took e rs us) = e
end_of (stopped w n p) = ended at_end 0

abbrev pub run_end : Stops → ℕ → Point → RunEnd
run_end st r x = end_of (run_from st r 0 false x.row x.stream)

-- ## What begins with attributes and visibility: past the first, and past both, a field's name or the item's word

abbrev pub visibility_at : Point → Point
visibility_at x = beyond attributes x

abbrev pub start_at : Point → Point
start_at x = beyond visibility (visibility_at x)

-- ## The item

abbrev pub item_name_at : Point → Point
item_name_at x = beyond (word role.item-word >>= named_kind) (start_at x)

abbrev pub generics_at : Point → Point
generics_at x = beyond data_type (start_at x)

abbrev pub clause_at : Point → Point
clause_at x = beyond generics (generics_at x)

abbrev pub body_at : Point → Point
body_at x = beyond clause (clause_at x)

-- ## A parameter: its name stands past its `'` or `const`, and its `:` or `=` past its name

abbrev pub before_name : Row → Bool
before_name r = is_punct QUOTE r || is_word CONST r

abbrev pub parameter_name_at : Point → Point
parameter_name_at x = cond (starts before_name x.stream) (past_token_lem x) x

-- ## A named field: its type stands past its name and `:`

abbrev pub type_at : Point → Point
type_at x = past_token_lem (past_token_lem (start_at x))

-- ## A variant

abbrev pub variant_name_at : Point → Point
variant_name_at x = beyond attributes x

-- its attributes and name; then its group, and then the `=` of its value
pub record VariantHead : Type 0 where
  pub attributes : List Trees
  pub name : List ℕ

abbrev pub variant_head : Reader VariantHead
variant_head = do
  a ← attributes
  w ← word role.variant-name
  n ← named! w
  pure (record { attributes = a; name = n })

abbrev pub group_at : Point → Point
group_at x = beyond variant_head x

abbrev pub equals_at : Point → Point
equals_at x = beyond variant_fields (group_at x)

-- a value's literal, from the row past the `=`: past the `-` too
abbrev pub literal_row : ℕ → Value → ℕ
literal_row row absent = row
literal_row row (literal t) = row
literal_row row (negative n) = row + 1

abbrev pub value_row : Point → Value → ℕ
value_row x v = literal_row ((equals_at x).row + 1) v

-- the variant at a position, from the point where the first one begins
abbrev pub variant_at : ℕ → Point → Point
variant_at zero x = x
variant_at (suc k) x = variant_at k (beyond variant x)
