-- Lists that settle document 01's lines on tagged attributes, and the answer to each for the prefix `p`.
use Rattle.std.specs.Prelude.{Bool, true, false, ◌&&◌, List, [], ◌∷◌, ℕ, eqb}
use Prim.Native.String.{String}
use Rattle.token_list.specs.Byte.{bytes}
use Rattle.token_list.specs.Check.{END}
use Rattle.token_list.specs.Text.{same}
use Rattle.tagged_reading.specs.Reading.{Answer, none, read}
use Rattle.tagged_reading.specs.Answer.{answer}

pub data Expected : Type 0 where
  nothing : Expected
  roles : List ℕ → Expected
  refused : ℕ → ℕ → Expected

pub record Example : Type 0 where
  pub list : String
  pub expected : Expected

abbrev pub agrees : Expected → Answer → Bool
agrees nothing none = true
agrees nothing (read es qs) = false
agrees nothing (Answer.refused m q) = false
agrees (roles rs) none = false
agrees (roles rs) (read es qs) = same rs qs
agrees (roles rs) (Answer.refused m q) = false
agrees (refused n p) none = false
agrees (refused n p) (read es qs) = false
agrees (refused n p) (Answer.refused m q) = eqb n m && eqb p q

abbrev pub all_agree : List Example → Bool
all_agree [] = true
all_agree (e ∷ es) = agrees e.expected (answer (bytes "p") (bytes e.list) 64) && all_agree es

-- [ p ( a , k = "s" , b ) ]
abbrev pub ENTRIES : String
ENTRIES = "kind text\no [\ni p\no (\ni a\np ,\ni k\np =\nl \"s\"\np ,\ni b\nc )\nc ]\n"

abbrev pub examples : List Example
examples =
    record { list = ENTRIES; expected = roles (23 ∷ 23 ∷ 23 ∷ 20 ∷ 23 ∷ 21 ∷ 23 ∷ 22 ∷ 23 ∷ 20 ∷ 23 ∷ 23 ∷ []) }
    -- no rows; a row before the group; a second group
    ∷ record { list = "kind text\n"; expected = refused 31 END }
    ∷ record { list = "kind text\ni x\no [\nc ]\n"; expected = refused 31 0 }
    ∷ record { list = "kind text\no [\ni p\nc ]\no [\nc ]\n"; expected = refused 31 3 }
    -- no group after the prefix; another prefix; `r#p` is not `p`
    ∷ record { list = "kind text\no [\ni p\nc ]\n"; expected = nothing }
    ∷ record { list = "kind text\no [\ni q\no (\nc )\nc ]\n"; expected = nothing }
    ∷ record { list = "kind text\no [\ni r#p\no (\nc )\nc ]\n"; expected = nothing }
    -- any delimiters, and a row after the list
    ∷ record {
      list = "kind text\no (\ni p\no {\ni a\nc }\ni x\nc )\n";
      expected = roles (23 ∷ 23 ∷ 23 ∷ 20 ∷ 23 ∷ 23 ∷ 23 ∷ []);
    }
    -- `k =` at the end; `k = x y`; `k = x ,`; `k = 1 b`
    ∷ record {
      list = "kind text\no [\ni p\no (\ni k\np =\nc )\nc ]\n";
      expected = roles (23 ∷ 23 ∷ 23 ∷ 23 ∷ 23 ∷ 23 ∷ 23 ∷ []);
    }
    ∷ record {
      list = "kind text\no [\ni p\no (\ni k\np =\ni x\ni y\nc )\nc ]\n";
      expected = roles (23 ∷ 23 ∷ 23 ∷ 23 ∷ 23 ∷ 23 ∷ 20 ∷ 23 ∷ 23 ∷ []);
    }
    ∷ record { list = "kind text\no [\ni p\no (\ni k\np =\ni x\np ,\nc )\nc ]\n"; expected = refused 29 6 }
    ∷ record { list = "kind text\no [\ni p\no (\ni k\np =\nl 1\ni b\nc )\nc ]\n"; expected = refused 28 6 }
    ∷ []
