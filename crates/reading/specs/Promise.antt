-- The promises on roles, under the names that people look for: sound, complete, unambiguous (document 01, "Role
-- grammar" and "Four questions about the promises"). The contract of `parse::item::new` ensures `SingleAssignment`.
--
-- They are stated with the list check and the role grammar alone; nothing of the reading has to be read. To believe
-- demand 3, read in this order (lines of definitions, without comments and imports):
--
--     token_list/specs   Byte 39, Layout 30, Text 51       bytes by name, limits, texts of the five kinds
--                        Row 56, Check 30, Stream 30       rows, refusals 1 to 7, streams: up to the ruler in each
--     reading/specs      Role 42, Token 72                 the nineteen roles, tests of tokens
--                        Grammar 209                       the role grammar, line by line
--                        Promise 16                        this file
--     parse/specs        Bodies, `accepted` alone, 4       which answers of the code accept
--
-- Every difference is allowed here (`everything`). So what Grammar asks `Unless` a difference is allowed always holds,
-- `LeftOver` holds of all rows, and Keyword and SimplePath need not be read.
use Rattle.std.specs.Prelude.{◌≡◌, Bool, true, false, List, ◌++◌, ℕ, ◌-◌, ◌≤◌, ltb, length, replicate}
use Rattle.token_list.specs.Layout.{first_row}
use Rattle.token_list.specs.Text.{all}
use Rattle.token_list.specs.Check.{check, passed}
use Rattle.token_list.specs.Stream.{at}
use Rattle.reading.specs.Role as role
use Rattle.reading.specs.Grammar.{Obeys, everything}

-- one role for each of so many rows, each of the grammar's
pub record OneEach (is_role : ℕ → Bool) (rows : ℕ) (roles : List ℕ) : Type 0 where
  pub counted : length roles ≡ rows
  pub named : all is_role roles ≡ true

-- Of a list s and a role buffer of `room` bytes: whether the list is accepted, and the buffer's final bytes. A list may
-- be read where it passes refusals 1 to 7, with a byte a row; `Obeying` says which assignments obey.
pub record Assigns (is_role : ℕ → Bool) (Obeying : List ℕ → Type 0) (s : List ℕ) (room : ℕ) (accepted : Bool)
    (buffer : List ℕ) : Type 0 where
  -- what is accepted may be read; the buffer's first bytes are an assignment that obeys, and all after it are 255
  pub sound : accepted ≡ true
      → (rows : ℕ) × (check s ≡ passed rows) × (rows ≤ room)
      × (roles : List ℕ) × Obeying roles × (buffer ≡ roles ++ replicate (room - rows) role.none)
  -- what may be read is accepted if an assignment obeys: with `sound`, exactly then
  pub complete : (rows : ℕ) → check s ≡ passed rows → rows ≤ room → (roles : List ℕ) → Obeying roles → accepted ≡ true
  -- any two assignments that obey are equal
  pub unambiguous : (roles others : List ℕ) → Obeying roles → Obeying others → roles ≡ others
  -- an assignment that obeys has one role for each row that the check counted
  pub each : (rows : ℕ) → check s ≡ passed rows → (roles : List ℕ) → Obeying roles → OneEach is_role rows roles
  -- on refusal every byte is 255, no role
  pub cleared : accepted ≡ false → buffer ≡ replicate room role.none

-- an assignment of roles to the rows of a list, after its line of names, that obeys document 01's grammar
abbrev pub Assignment : List ℕ → List ℕ → Type 0
Assignment s roles = Obeys everything (at s (first_row s)).here roles

abbrev pub SingleAssignment : List ℕ → ℕ → Bool → List ℕ → Type 0
SingleAssignment s room accepted buffer = Assigns (λ r. ltb r role.count) (Assignment s) s room accepted buffer
