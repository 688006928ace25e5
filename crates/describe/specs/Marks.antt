-- The promise that marks change neither a listing nor a value's text (document 02, card 6).
use Rattle.std.specs.Prelude.{◌≡◌, List, ℕ}
use Rattle.describe.specs.Listing as listing
use Rattle.describe.specs.Value as value

-- of two lists, with an output or a scratch of n bytes: the same listing, value text and row of it, or the same refusal
pub record ListedAlike (s t : List ℕ) : Type 0 where
  pub listings : (n : ℕ) → listing.answer s n ≡ listing.answer t n
  -- of the variant at position k
  pub values : (k n : ℕ) → value.answer s k n ≡ value.answer t k n
