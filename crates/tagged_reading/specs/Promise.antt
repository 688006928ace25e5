-- One role for every row of a tagged attribute (document 01, module 6): the same promise, with the grammar of a prefix.
use Rattle.std.specs.Prelude.{Bool, List, ℕ}
use Rattle.token_list.specs.Layout.{first_row}
use Rattle.token_list.specs.Stream.{at}
use Rattle.reading.specs.Promise.{Assigns}
use Rattle.tagged_reading.specs.Role.{is_role}
use Rattle.tagged_reading.specs.Grammar.{Obeys, everything}

-- an assignment of roles to the rows of a list that obeys document 01's grammar for this prefix
abbrev pub Assignment : List ℕ → List ℕ → List ℕ → Type 0
Assignment prefix s roles = Obeys everything prefix (at s (first_row s)).here roles

-- of a prefix, a list s and a role buffer of `room` bytes: whether entries are read, and the buffer's final bytes
abbrev pub TaggedAssignment : List ℕ → List ℕ → ℕ → Bool → List ℕ → Type 0
TaggedAssignment prefix s room reads buffer = Assigns is_role (Assignment prefix s) s room reads buffer
