-- The promise that marks change nothing of what is read of a tagged attribute (document 02, card 6).
use Rattle.std.specs.Prelude.{◌≡◌, List, ℕ}
use Rattle.tagged_reading.specs.Answer.{answer}
use Rattle.tagged_reading.specs.Promise.{Assignment}

-- of a prefix and two lists, with a role buffer of n bytes: the same entries and roles, or the same refusal
pub record TaggedAlike (prefix s t : List ℕ) : Type 0 where
  pub answers : (n : ℕ) → answer prefix s n ≡ answer prefix t n
  -- the same assignments obey the grammar
  pub assignments : (roles : List ℕ) → Assignment prefix s roles → Assignment prefix t roles
