-- What a tagged attribute holds (src/utils.rs, ParsedAttribute), without places.
use Rattle.std.specs.Prelude.{List, ℕ}

pub data Entry : Type 0 where
  -- an ident's text
  tag : List ℕ → Entry
  -- a key's text, and the literal's text as it stands
  property : List ℕ → List ℕ → Entry
