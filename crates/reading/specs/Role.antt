-- The nineteen roles (document 01, "Role grammar").
use Rattle.std.specs.Prelude.{ℕ}

abbrev pub left_over : ℕ
left_over = 0

abbrev pub attribute_mark : ℕ
attribute_mark = 1

abbrev pub attribute_group : ℕ
attribute_group = 2

abbrev pub idle_mark : ℕ
idle_mark = 3

abbrev pub visibility : ℕ
visibility = 4

abbrev pub scope : ℕ
scope = 5

abbrev pub item-word : ℕ
item-word = 6

abbrev pub item-name : ℕ
item-name = 7

abbrev pub angle : ℕ
angle = 8

abbrev pub parameter-name : ℕ
parameter-name = 9

abbrev pub separator : ℕ
separator = 10

-- a bound, a default or a const's type
abbrev pub bound : ℕ
bound = 11

abbrev pub where_word : ℕ
where_word = 12

abbrev pub where_run : ℕ
where_run = 13

-- the delimiters of a body or of a variant's group, and `;`
abbrev pub delimiter : ℕ
delimiter = 14

abbrev pub variant-name : ℕ
variant-name = 15

abbrev pub value : ℕ
value = 16

abbrev pub field_name : ℕ
field_name = 17

abbrev pub type : ℕ
type = 18

-- how many roles there are
abbrev pub count : ℕ
count = 19

-- a byte of the role buffer that holds no role: past the rows, and everywhere after a refusal
abbrev pub none : ℕ
none = 255
