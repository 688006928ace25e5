-- A text and a number, which the code compares in the place of a name or an integer.
use Rattle.std.specs.Prelude.{Bool, ◌&&◌, List, [], ◌∷◌, ℕ, suc, ◌+◌, ◌*◌, ◌%◌, eqb, ℤ, pos, negsuc}
use Rattle.token_list.specs.Byte.{MINUS}
use Rattle.token_list.specs.Text.{same}
use Rattle.doubles.specs.Same.{bare}

pub record Key : Type 0 where
  pub text : List ℕ
  pub number : ℕ

abbrev pub same_key : Key → Key → Bool
same_key x y = eqb x.number y.number && same x.text y.text

-- a prime above 2^16, and 2^47
abbrev pub FACTOR : ℕ
FACTOR = 65599

abbrev pub BOUND : ℕ
BOUND = 140737488355328

-- a number that equal texts have in common
abbrev pub hash : ℕ → List ℕ → ℕ
hash h [] = h
hash h (b ∷ t) = hash ((h * FACTOR + b) % BOUND) t

abbrev pub text_key : List ℕ → Key
text_key t = record { text = t; number = hash 0 t }

abbrev pub name_key : List ℕ → Key
name_key t = text_key (bare t)

-- an integer by its sign and size
abbrev pub integer_key : ℤ → Key
integer_key (pos n) = record { text = []; number = n }
integer_key (negsuc n) = record { text = MINUS ∷ []; number = suc n }
