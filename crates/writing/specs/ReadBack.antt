-- How what was written reads, put behind `struct` and a name, before `;` (document 01, "Role grammar"; GenericParams of
-- the Reference). Limits aside: it is read as a stream.
use Rattle.std.specs.Prelude.{◌≡◌, Bool, true, false, ◌||◌, List, [], ◌∷◌, ◌++◌, map, ℕ}
use Rattle.token_list.specs.Byte.{SEMICOLON, MINUS}
use Rattle.token_list.specs.Text.{same}
use Rattle.token_list.specs.Row.{Row}
use Rattle.token_list.specs.Rows.{ident, punct}
use Rattle.token_list.specs.Stream.{Trees, end, leaf, group, streams}
use Rattle.reading.specs.Token.{is_punct, STRUCT, CONST}
use Rattle.reading.specs.Declaration.{default, struct, Parameter, lifetime, constant, type, angled, unconstrained, unit}
use Rattle.reading.specs.Declaration.{fields, Declaration}
use Rattle.reading.specs.Took.{Cause, took, stopped}
use Rattle.reading.specs.Reading.{item}
use Rattle.reading.specs.Grammar as grammar
use Rattle.reading.specs.Grammar.{Difference, Obeys}
use Rattle.writing.specs.Generics.{angled_rows, declared, names, added_lifetime, added_type, additional}

-- the stream of `struct`, the name, the rows and `;`
abbrev pub behind_struct_lem : List ℕ → List Row → Trees
behind_struct_lem name rs = (streams (ident STRUCT ∷ ident name ∷ rs ++ punct SEMICOLON ∷ [])).here

-- a unit struct of that name with the parameters
abbrev pub unit_struct : List ℕ → List Parameter → Declaration
unit_struct name ps =
    record {
      attributes = [];
      visibility = default;
      kind = struct;
      name = name;
      generics = angled ps;
      clause = unconstrained;
      body = fields unit;
    }

-- document 01's grammar, but that the `,` between parameters must stand
abbrev pub with_commas : Difference → Bool
with_commas grammar.comma-after-parameter = false
with_commas grammar.where-ends-at-group = true
with_commas grammar.tuple-where = true
with_commas grammar.tuple-without-semicolon = true
with_commas grammar.left-over-rows = true
with_commas grammar.comma-after-value = true
with_commas grammar.enum-delimiter = true
with_commas grammar.enum-semicolon = true
with_commas grammar.group-and-value = true
with_commas grammar.keyword-as-name = true
with_commas grammar.raw-lifetime = true
with_commas grammar.parameter-order = true
with_commas grammar.const-without-type = true
with_commas grammar.open-angle = true
with_commas grammar.scope-contents = true
with_commas grammar.wrapped-pub = true
with_commas grammar.any-scope = true
with_commas grammar.idle-mark = true
with_commas grammar.one-word-group = true
with_commas grammar.empty-type = true
with_commas grammar.lone-field-start = true

-- the rows read as the parameters, and each `,` between them stands
pub record Reads (name : List ℕ) (rs : List Row) (ps : List Parameter) : Type 0 where
  pub roles : List ℕ
  pub read : item 0 (behind_struct_lem name rs) ≡ took (unit_struct name ps) roles end
  pub commas : Obeys with_commas (behind_struct_lem name rs) roles

-- the rows are refused
pub record Refused (name : List ℕ) (rs : List Row) : Type 0 where
  pub cause : Cause
  pub number : ℕ
  pub place : ℕ
  pub read : item 0 (behind_struct_lem name rs) ≡ stopped cause number place

-- The rows rs read as the parameters ps behind every name; in the exception they are refused.
pub record ReadBack (exception : Bool) (rs : List Row) (ps : List Parameter) : Type 0 where
  pub same : exception ≡ false → (name : List ℕ) → Reads name rs ps
  pub other : exception ≡ true → (name : List ℕ) → Refused name rs

-- ## The exceptions

-- the last token is `-`: a `>` behind it becomes an arrow's
abbrev pub ends_in_minus_lem : Trees → Bool
ends_in_minus_lem end = false
ends_in_minus_lem (leaf r end) = is_punct MINUS r
ends_in_minus_lem (leaf r (leaf q us)) = ends_in_minus_lem (leaf q us)
ends_in_minus_lem (leaf r (group d ts us)) = ends_in_minus_lem (group d ts us)
ends_in_minus_lem (group d ts us) = ends_in_minus_lem us

-- the run of bounds or of a const's type
abbrev pub run_of : Parameter → Trees
run_of (lifetime n b) = b
run_of (constant n t) = t
run_of (type n b d) = b

-- the last parameter's run ends in `-`
abbrev pub last_minus : List Parameter → Bool
last_minus [] = false
last_minus (p ∷ []) = ends_in_minus_lem (run_of p)
last_minus (p ∷ q ∷ ps) = last_minus (q ∷ ps)

-- a const is named `const`
abbrev pub const_named : List Parameter → Bool
const_named [] = false
const_named (lifetime n b ∷ ps) = const_named ps
const_named (constant n t ∷ ps) = same n CONST || const_named ps
const_named (type n b d ∷ ps) = const_named ps

-- an added type is named `const`
abbrev pub const_added : List (List ℕ) → Bool
const_added [] = false
const_added (t ∷ ts) = same t CONST || const_added ts

-- with an added type the last bound is not the last parameter's
abbrev pub added_exception : List (List ℕ) → List Parameter → Bool
added_exception [] ps = last_minus ps
added_exception (t ∷ ts) ps = const_added (t ∷ ts)

-- ## The promise, of the parameters ps of a declaration that was read, as they go out: with their marks, but that each
-- `'` is joint (`sent_parameter`)

abbrev pub without_default_lem : Parameter → Parameter
without_default_lem (lifetime n b) = lifetime n b
without_default_lem (constant n t) = constant n t
without_default_lem (type n b d) = type n b end

pub record WritersReadBack (ps : List Parameter) : Type 0 where
  -- impl_generics: the same parameters without defaults
  pub impl : ReadBack (last_minus ps) (angled_rows (declared ps)) (map without_default_lem ps)
  -- type_generics: their names
  pub type : ReadBack (const_named ps) (angled_rows (names ps)) (names ps)
  -- impl_generics_with_additional: added lifetimes, the same parameters without defaults, added types
  pub with_additional : (ls ts : List (List ℕ)) → ReadBack (added_exception ts ps) (angled_rows (additional ls ts ps))
      (map added_lifetime ls ++ (map without_default_lem ps ++ map added_type ts))
