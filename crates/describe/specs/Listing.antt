-- The listing of a declaration (document 01, "The listing program"; the variants' numbers, document 02, cards 2 and 9).
use Rattle.std.specs.Prelude.{◌≡◌, Bool, false, ◌||◌, List, [], ◌∷◌, ◌++◌, map, ℕ, suc, ◌+◌, ◌*◌, ◌≤◌, ℤ, pos, negsuc}
use Rattle.std.specs.Prelude.{length, get_or}
use Rattle.token_list.specs.Byte.{bytes, SPACE, LF, QUOTE, MINUS}
use Rattle.token_list.specs.Text.{between}
use Rattle.token_list.specs.Layout.{MAX_BYTES, MAX_ROWS, first_row}
use Rattle.token_list.specs.Stream.{Trees, at}
use Rattle.token_list.specs.Check as list
use Rattle.output.specs.Text.{decimal}
use Rattle.output.specs.Answer.{Answer, wrote, refused, fitted}
use Rattle.reading.specs.Declaration.{Kind, struct, enum, Parameter, lifetime, constant, type, parameters_of}
use Rattle.reading.specs.Declaration.{UnnamedField, Field, Fields, unit, named, tuple}
use Rattle.reading.specs.Declaration.{Variant, Body, fields, variants, Declaration, body_count}
use Rattle.reading.specs.Took.{Took, took, stopped, Point}
use Rattle.reading.specs.Place.{start}
use Rattle.reading.specs.Answer.{framed, read_number}
use Rattle.reading.specs.Reading.{item}
use Rattle.doubles.specs.Double.{Different}
use Rattle.doubles.specs.Same.{bare}
use Rattle.describe.specs.Numbers.{Numbers, numbers, lacking, body_names, numbers_of, fault_number, fault_place}

-- the line of names
abbrev pub NAMES : List ℕ
NAMES = bytes "part name number\n"

-- the parts, each with the space after it
abbrev pub STRUCT : List ℕ
STRUCT = bytes "struct "

abbrev pub ENUM : List ℕ
ENUM = bytes "enum "

abbrev pub PARAM : List ℕ
PARAM = bytes "param "

abbrev pub VARIANT : List ℕ
VARIANT = bytes "variant "

abbrev pub FIELD : List ℕ
FIELD = bytes "field "

-- where there is no name or no number
abbrev pub DASH : List ℕ
DASH = bytes "-"

-- a line: part, name and number
unfoldable pub line : List ℕ → List ℕ → List ℕ → List ℕ
line part name number = part ++ (name ++ SPACE ∷ (number ++ LF ∷ []))

-- lines of things that are numbered from k on
abbrev pub numbered : {A : Type 0} → (ℕ → A → List ℕ) → ℕ → List A → List ℕ
numbered f k [] = []
numbered f k (x ∷ xs) = f k x ++ numbered f (k + 1) xs

-- a lifetime with its `'`
abbrev pub parameter_name : Parameter → List ℕ
parameter_name (lifetime n b) = QUOTE ∷ n
parameter_name (constant n t) = n
parameter_name (type n b d) = n

abbrev pub parameter_line : ℕ → Parameter → List ℕ
parameter_line k p = line PARAM (parameter_name p) DASH

abbrev pub named_line : ℕ → Field → List ℕ
named_line k f = line FIELD f.name (decimal k)

abbrev pub tuple_line : ℕ → UnnamedField → List ℕ
tuple_line k f = line FIELD DASH (decimal k)

abbrev pub field_lines : Fields → List ℕ
field_lines unit = []
field_lines (named fs) = numbered named_line 0 fs
field_lines (tuple fs) = numbered tuple_line 0 fs

-- an integer in decimal
abbrev pub number_text : ℤ → List ℕ
number_text (pos n) = decimal n
number_text (negsuc n) = MINUS ∷ decimal (suc n)

abbrev pub variant_line : ℤ → Variant → List ℕ
variant_line z v = line VARIANT v.name (number_text z)

-- the variant at position k, with its number, its fields below
abbrev pub variant_lines : List ℤ → ℕ → Variant → List ℕ
variant_lines zs k v = variant_line (get_or zs k (pos 0)) v ++ field_lines v.fields

abbrev pub body_lines : List ℤ → Body → List ℕ
body_lines zs (fields f) = field_lines f
body_lines zs (variants vs) = numbered (variant_lines zs) 0 vs

abbrev pub kind_text : Kind → List ℕ
kind_text struct = STRUCT
kind_text enum = ENUM

-- the line of names and the item's
abbrev pub item_lines : Declaration → List ℕ
item_lines d = NAMES ++ line (kind_text d.kind) d.name (decimal (body_count d.body))

-- with the numbers zs of its variants
unfoldable pub listing : List ℤ → Declaration → List ℕ
listing zs d = item_lines d ++ (numbered parameter_line 0 (parameters_of d.generics) ++ body_lines zs d.body)

-- of a declaration that begins at x
abbrev pub numbered_answer : Point → Declaration → Numbers → Answer
numbered_answer x d (numbers zs) = wrote (listing zs d)
numbered_answer x d (lacking f k) = refused (fault_number f) (fault_place x f k)

abbrev pub item_answer : Point → Took Declaration → Answer
item_answer x (took d rs us) = numbered_answer x d (numbers_of d)
item_answer x (stopped w n p) = refused n p

-- for a list, where there is room
unfoldable pub full_answer : List ℕ → Answer
full_answer s = framed refused (λ rows. false) (item_answer (start s)) s (list.check s)

-- for a list and an output of n bytes
unfoldable pub answer : List ℕ → ℕ → Answer
answer s n = fitted n (full_answer s)

-- the numbers of its refusals: those of the reading, and of variants at fault
abbrev pub listing_number : ℕ → Bool
listing_number n = read_number n || (between 42 43 n || between 50 51 n)

-- 176,145: the 17 bytes of the line of names, the bytes that a list may have, and 27 bytes for each of its rows
abbrev pub MOST : ℕ
MOST = 17 + MAX_BYTES + 27 * MAX_ROWS

-- of a list s, and an output of n bytes
pub record Fits (s : List ℕ) (n : ℕ) : Type 0 where
  -- no listing is longer than MOST
  pub longest : (text : List ℕ) → answer s n ≡ wrote text → length text ≤ MOST
  -- an output of that length has room for the whole listing
  pub room : MOST ≤ n → answer s n ≡ full_answer s
  -- and is never refused as too short
  pub never : MOST ≤ n → (p : ℕ) → answer s n ≡ refused 8 p → ⊥

abbrev pub bare_names : Declaration → List (List ℕ)
bare_names d = map bare (body_names d.body)

-- of a text that was written for a list s: no two variants have one name, `r#` aside, and no two have one number
pub record Distinct (s text : List ℕ) : Type 0 where
  -- the declaration that is read
  pub declaration : Declaration
  pub roles : List ℕ
  pub rest : Trees
  pub read : item 0 (at s (first_row s)).here ≡ took declaration roles rest
  -- the numbers of its variants, one for each
  pub zs : List ℤ
  pub each : length zs ≡ length (bare_names declaration)
  pub listed : text ≡ listing zs declaration
  pub names : Different [] (length (bare_names declaration)) (bare_names declaration)
  pub numbers : Different (pos 0) (length zs) zs
