-- What the writers of parse/generics.rs write (document 01, modules 3 and 5), as rows.
use Rattle.std.specs.Prelude.{Bool, true, false, List, [], ◌∷◌, ◌++◌, map, ℕ}
use Rattle.token_list.specs.Byte.{COMMA, COLON, LESS, GREATER}
use Rattle.token_list.specs.Row.{Row}
use Rattle.token_list.specs.Rows.{ident, punct, lifetime_rows}
use Rattle.token_list.specs.Stream.{Trees, end, leaf, group}
use Rattle.reading.specs.Token.{CONST}
use Rattle.reading.specs.Declaration.{Parameter, lifetime, constant, type, Generics, without, angled}
use Rattle.writing.specs.Rows.{run_rows, sent}

-- ## One parameter

-- `:` and a run
abbrev pub constraints : Trees → List Row
constraints ts = punct COLON ∷ run_rows ts

-- an empty run loses its `:`
abbrev pub bounds : Trees → List Row
bounds end = []
bounds (leaf r us) = constraints (leaf r us)
bounds (group d ts us) = constraints (group d ts us)

-- append_to_result_with_constraints: a default is omitted; a const always gets `:` and its run
abbrev pub parameter_rows : Parameter → List Row
parameter_rows (lifetime n b) = lifetime_rows n ++ bounds b
parameter_rows (constant n t) = ident CONST ∷ ident n ∷ constraints t
parameter_rows (type n b d) = ident n ∷ bounds b

-- ## All of them

-- parameters with a `,` before each, the first apart
abbrev pub parted : Bool → List Parameter → List Row
parted first [] = []
parted true (p ∷ ps) = parameter_rows p ++ parted false ps
parted false (p ∷ ps) = punct COMMA ∷ parameter_rows p ++ parted false ps

abbrev pub angled_rows : List Parameter → List Row
angled_rows ps = punct LESS ∷ parted true ps ++ punct GREATER ∷ []

-- ## The three writers, each by the parameters that it writes; without generics they write nothing

-- a parameter as it goes out
abbrev pub sent_parameter : Parameter → Parameter
sent_parameter (lifetime n b) = lifetime n (sent b)
sent_parameter (constant n t) = constant n (sent t)
sent_parameter (type n b d) = type n (sent b) (sent d)

abbrev pub generics_rows : (List Parameter → List Parameter) → Generics → List Row
generics_rows f without = []
generics_rows f (angled ps) = angled_rows (f (map sent_parameter ps))

-- impl_generics: the declared ones
abbrev pub declared : List Parameter → List Parameter
declared ps = ps

-- type_generics: a const is named as a type is
abbrev pub named : Parameter → Parameter
named (lifetime n b) = lifetime n end
named (constant n t) = type n end end
named (type n b d) = type n end end

abbrev pub names : List Parameter → List Parameter
names ps = map named ps

-- impl_generics_with_additional: added lifetimes come first, added types last
abbrev pub added_lifetime : List ℕ → Parameter
added_lifetime t = lifetime t end

abbrev pub added_type : List ℕ → Parameter
added_type t = type t end end

abbrev pub additional : List (List ℕ) → List (List ℕ) → List Parameter → List Parameter
additional ls ts ps = map added_lifetime ls ++ (ps ++ map added_type ts)
