-- The line in front of a section (recorded/README.md): a name of lower-case letters, one space, one to nine digits, LF.
use Rattle.std.specs.Prelude.{Bool, cond, ◌&&◌, List, [], ◌∷◌, ℕ, ◌+◌, eqb, ltb, length, take, drop, Option, Some, None}
use Rattle.std.specs.List.{prefix_len}
use Rattle.token_list.specs.Byte.{code, bytes, SPACE, LF}
use Rattle.token_list.specs.Text.{same, between, digit}
use Rattle.reading.specs.Token.{worth}
use Rattle.replay.specs.declared.header.Topic.{Topic}
use Rattle.replay.specs.declared.header.Topic.TheVariants.{Check, Roles, Every, Listing, Tagged, Generics}
use Rattle.replay.specs.declared.header.Writer.{Writer}
use Rattle.replay.specs.declared.header.Writer.TheVariants as writers
use Rattle.replay.specs.declared.header.Section.{Section}
use Rattle.replay.specs.declared.header.Section.TheVariants.{List as Listed, Answer, Other}
use Rattle.replay.specs.declared.header.Header.{Header}

abbrev pub LIST : List ℕ
LIST = bytes "list"

abbrev pub writer_name : Writer → List ℕ
writer_name writers.Impl = bytes "impl"
writer_name writers.Type = bytes "type"
writer_name writers.Additional = bytes "additional"

abbrev pub topic_name : Topic → List ℕ
topic_name Check = bytes "check"
topic_name Roles = bytes "roles"
topic_name Every = bytes "every"
topic_name Listing = bytes "listing"
topic_name Tagged = bytes "tagged"
topic_name (Generics w) = writer_name w

abbrev pub generics_named : List ℕ → Section
generics_named t =
    cond (same t (writer_name writers.Impl)) (Answer (Generics writers.Impl))
    (cond (same t (writer_name writers.Type)) (Answer (Generics writers.Type))
    (cond (same t (writer_name writers.Additional)) (Answer (Generics writers.Additional)) Other))

abbrev pub section_named : List ℕ → Section
section_named t =
    cond (same t LIST) Listed
    (cond (same t (topic_name Check)) (Answer Check)
    (cond (same t (topic_name Roles)) (Answer Roles)
    (cond (same t (topic_name Every)) (Answer Every)
    (cond (same t (topic_name Listing)) (Answer Listing)
    (cond (same t (topic_name Tagged)) (Answer Tagged) (generics_named t))))))

-- how many bytes at the start pass the test
abbrev pub run : (ℕ → Bool) → List ℕ → ℕ
run p bs = prefix_len p bs

abbrev pub MAX_DIGITS : ℕ
MAX_DIGITS = 9

-- the digits t, and what follows them; the section would start at `start`
abbrev pub ended : Section → ℕ → List ℕ → List ℕ → Option Header
ended k start t [] = None
ended k start t (b ∷ bs) =
    cond (eqb b LF && between 1 MAX_DIGITS (length t))
    (Some (record { section = k; size = worth t; start = start })) None

-- the bytes u from the place `at` on, after the space
abbrev pub sized : Section → ℕ → List ℕ → Option Header
sized k at u = ended k (at + run digit u + 1) (take (run digit u) u) (drop (run digit u) u)

-- the name t, and what follows it from the place `at` on
abbrev pub named : ℕ → List ℕ → List ℕ → Option Header
named at t [] = None
named at t (b ∷ bs) = cond (eqb b SPACE && ltb 0 (length t)) (sized (section_named t) (at + 1) bs) None

abbrev pub lower : ℕ → Bool
lower b = between (code "a") (code "z") b

-- the bytes u from the place `at` on
abbrev pub header : ℕ → List ℕ → Option Header
header at u = named (at + run lower u) (take (run lower u) u) (drop (run lower u) u)
