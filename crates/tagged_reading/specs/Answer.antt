-- The whole answer about a tagged attribute, and the whole role buffer (document 01, "What the reader hands back").
use Rattle.std.specs.Prelude.{Bool, true, false, cond, ◌||◌, List, ◌++◌, ℕ, ◌-◌, ltb, eqb, length, replicate}
use Rattle.token_list.specs.Layout.{first_row}
use Rattle.token_list.specs.Text.{between}
use Rattle.token_list.specs.Check as list
use Rattle.token_list.specs.Stream.{at}
use Rattle.reading.specs.Role.{none as no-role}
use Rattle.tagged_reading.specs.Reading.{Answer, none, read, refused, tagged}

-- the list check's refusal; 8 where the role buffer of n bytes has no byte for each row; then what is read
abbrev pub framed : List ℕ → List ℕ → ℕ → list.Answer → Answer
framed prefix s n (list.Answer.refused m p) = refused m p
framed prefix s n (list.Answer.passed rows) =
    cond (ltb n rows) (refused 8 list.END) (tagged prefix (at s (first_row s)).here)

-- for a prefix, a list s and a role buffer of n bytes
unfoldable pub answer : List ℕ → List ℕ → ℕ → Answer
answer prefix s n = framed prefix s n (list.check s)

-- the roles, then no role; no role throughout where no entries are read
abbrev pub buffer : ℕ → Answer → List ℕ
buffer n none = replicate n no-role
buffer n (read es rs) = rs ++ replicate (n - length rs) no-role
buffer n (refused m p) = replicate n no-role

-- the numbers of a tagged attribute's own refusals, and with those of the list check and 8 all that are given
abbrev pub own_number_lem : ℕ → Bool
own_number_lem n = between 28 29 n || eqb n 31

abbrev pub tagged_number : ℕ → Bool
tagged_number n = between 1 8 n || own_number_lem n

-- whether entries are read: neither none nor a refusal
abbrev pub reads : Answer → Bool
reads none = false
reads (read es rs) = true
reads (refused m p) = false
