-- What writing a text means.
use Rattle.std.specs.Prelude.{◌≡◌, List, ℕ, ◌+◌, ◌^◌, ◌≤◌, ◌<◌, min, max, length}
use Rattle.std.proofs.lemmas.List.Edits.{sets}

-- a place past every output: a slice of bytes is always shorter
abbrev pub FAR : ℕ
FAR = 2 ^ 63

-- the place n bytes further, which stops at FAR; a place past FAR stays as it is
abbrev pub further : ℕ → ℕ → ℕ
further at n = max at (min (at + n) FAR)

-- an output was `before` and is `after`: the text stands from `at` on, as far as there is room, and the next place is r
pub record Put (before after : List ℕ) (at r : ℕ) (text : List ℕ) : Type 0 where
  pub next : r ≡ further at (length text)
  pub bytes : after ≡ sets before at text
  -- as every slice is
  pub short : length before < FAR

-- the text stands from the start on, as far as there is room, and r is its length
pub record Printed (before after : List ℕ) (r : ℕ) (text : List ℕ) : Type 0 where
  pub counted : r ≡ length text
  pub bytes : after ≡ sets before 0 text

-- the whole text stands from `at` on, and r is the place behind it
pub record Stored (before after : List ℕ) (at r : ℕ) (text : List ℕ) : Type 0 where
  pub next : r ≡ at + length text
  pub bytes : after ≡ sets before at text

-- an output was `before` and is `after`: where the text fits from `at` on it is stored there; where it does not, r is
-- a place past the output
pub record Appended (before after : List ℕ) (at r : ℕ) (text : List ℕ) : Type 0 where
  pub kept : length after ≡ length before
  pub room : at + length text ≤ length before → Stored before after at r text
  pub full : length before < at + length text → length before < r
