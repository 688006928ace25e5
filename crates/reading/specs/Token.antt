-- Tests of tokens, which the role grammar and the reading share (document 01, "Runs" and "Role grammar").
use Rattle.std.specs.Prelude.{Bool, true, false, ◌&&◌, ◌||◌, List, [], ◌∷◌, ℕ, ◌+◌, ◌-◌, ◌*◌, leb, eqb, replicate}
use Rattle.token_list.specs.Byte.{bytes, ZERO, PARENTHESIS, BRACE}
use Rattle.token_list.specs.Layout.{IDENT, LITERAL, PUNCT}
use Rattle.token_list.specs.Text.{same, all, digit}
use Rattle.token_list.specs.Row.{Row, first}
use Rattle.token_list.specs.Stream.{Trees, end, leaf, group, size}

-- ## One token

abbrev pub is_ident : Row → Bool
is_ident r = eqb r.kind IDENT

abbrev pub is_literal : Row → Bool
is_literal r = eqb r.kind LITERAL

abbrev pub is_punct : ℕ → Row → Bool
is_punct b r = eqb r.kind PUNCT && eqb (first r.text) b

abbrev pub is_word : List ℕ → Row → Bool
is_word t r = is_ident r && same r.text t

-- the rows of a group: its opening row, its inside, its closing row
abbrev pub group_size : Trees → ℕ
group_size ts = 1 + size ts + 1

-- a copied group: the same role for all its rows
abbrev pub copied : ℕ → Trees → List ℕ
copied r ts = replicate (group_size ts) r

-- ## Words

abbrev pub PUB : List ℕ
PUB = bytes "pub"

abbrev pub STRUCT : List ℕ
STRUCT = bytes "struct"

abbrev pub ENUM : List ℕ
ENUM = bytes "enum"

abbrev pub CONST : List ℕ
CONST = bytes "const"

abbrev pub WHERE : List ℕ
WHERE = bytes "where"

-- crate, self, super or in
abbrev pub scope_word : Row → Bool
scope_word r =
    is_word (bytes "crate") r || (is_word (bytes "self") r || (is_word (bytes "super") r || is_word (bytes "in") r))

-- ## What stands first in a stream

-- a token that passes the test
abbrev pub starts : (Row → Bool) → Trees → Bool
starts p end = false
starts p (leaf r ts) = p r
starts p (group d ts us) = false

-- a group with the delimiter d
abbrev pub opens : ℕ → Trees → Bool
opens d end = false
opens d (leaf r ts) = false
opens d (group e ts us) = eqb e d

abbrev pub is_group : Trees → Bool
is_group end = false
is_group (leaf r ts) = false
is_group (group d ts us) = true

-- a first token that a scope begins with
abbrev pub scoped : Trees → Bool
scoped ts = starts scope_word ts

-- nothing
abbrev pub is_end : Trees → Bool
is_end end = true
is_end (leaf r ts) = false
is_end (group d ts us) = false

-- a stream of one token that passes the test
abbrev pub lone : (Row → Bool) → Trees → Bool
lone p end = false
lone p (group d ts us) = false
lone p (leaf r end) = p r
lone p (leaf r (leaf q us)) = false
lone p (leaf r (group d ts us)) = false

-- ## Numbers

-- the worth of decimal digits
abbrev pub worth_from : ℕ → List ℕ → ℕ
worth_from n [] = n
worth_from n (b ∷ bs) = worth_from (n * 10 + (b - ZERO)) bs

abbrev pub worth : List ℕ → ℕ
worth t = worth_from 0 t

-- the largest i64
abbrev pub MAX_I64 : ℕ
MAX_I64 = 9223372036854775807

-- digits alone, worth at most the largest i64
unfoldable pub negatable : List ℕ → Bool
negatable t = all digit t && leb (worth t) MAX_I64

-- ## The stops of runs: `,`, `>`, and `{` with `(`

pub record Stops : Type 0 where
  pub comma : Bool
  pub angle : Bool
  pub group : Bool

abbrev pub parameter_stops : Stops
parameter_stops = record { comma = true; angle = true; group = false }

abbrev pub field_stops : Stops
field_stops = record { comma = true; angle = false; group = false }

abbrev pub clause_stops : Stops
clause_stops = record { comma = false; angle = false; group = true }

abbrev pub no_stops : Stops
no_stops = record { comma = false; angle = false; group = false }

-- rule 5: a brace or parenthesis group that is a stop
abbrev pub stopping : Stops → ℕ → ℕ → Bool
stopping st depth d = eqb depth 0 && (st.group && (eqb d BRACE || eqb d PARENTHESIS))
