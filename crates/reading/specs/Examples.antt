-- The lines of document 01 marked ★ ("The listing program" and "Rows on the edge"): lists, and the paper's answer to
-- each.
use Rattle.std.specs.Prelude.{Bool, true, false, ◌&&◌, List, [], ◌∷◌, ℕ, eqb}
use Prim.Native.String.{String}
use Rattle.token_list.specs.Byte.{bytes}
use Rattle.token_list.specs.Check.{END}
use Rattle.token_list.specs.Text.{same}
use Rattle.reading.specs.Answer.{Answer, declared, answer}

-- what the paper says: the roles, only that the list is accepted, or a refusal's number and place
pub data Expected : Type 0 where
  roles : List ℕ → Expected
  accepted : Expected
  refused : ℕ → ℕ → Expected

pub record Example : Type 0 where
  pub list : String
  pub expected : Expected

abbrev pub agrees : Expected → Answer → Bool
agrees (roles rs) (declared d qs) = same rs qs
agrees (roles rs) (Answer.refused m q) = false
agrees accepted (declared d qs) = true
agrees accepted (Answer.refused m q) = false
agrees (refused n p) (declared d qs) = false
agrees (refused n p) (Answer.refused m q) = eqb n m && eqb p q

abbrev pub all_agree : List Example → Bool
all_agree [] = true
all_agree (e ∷ es) = agrees e.expected (answer (bytes e.list) 64) && all_agree es

-- the listing's example
abbrev pub VALVE : String
VALVE = "kind text\ni pub\ni enum\ni Valve\no {\ni Main\np =\nl 14\np ,\ni Block\no (\ni u8\nc )\np ,\ni Drain\np =\np -\nl 2\nc }\n"

-- an arrow in a bound
abbrev pub ARROW : String
ARROW = "kind text\ni struct\ni A\np <\ni F\np :\ni Fn\no (\nc )\np -\np >\ni u8\np >\no (\ni F\nc )\np ;\n"

abbrev pub examples : List Example
examples =
    -- the listing's example
    record {
      list = VALVE;
      expected = roles (4 ∷ 6 ∷ 7 ∷ 14 ∷ 15 ∷ 10 ∷ 16 ∷ 10 ∷ 15 ∷ 14 ∷ 18 ∷ 14 ∷ 10 ∷ 15 ∷ 10 ∷ 16 ∷ 16 ∷ 14 ∷ []);
    }
    -- no rows
    ∷ record { list = "kind text\n"; expected = refused 11 END }
    -- no bytes
    ∷ record { list = ""; expected = refused 2 END }
    -- `struct A ;`
    ∷ record { list = "kind text\ni struct\ni A\np ;\n"; expected = roles (6 ∷ 7 ∷ 14 ∷ []) }
    -- `struct A < F : Fn ( ) - > u8 > ( F ) ;`
    ∷ record {
      list = ARROW;
      expected = roles (6 ∷ 7 ∷ 8 ∷ 9 ∷ 10 ∷ 11 ∷ 11 ∷ 11 ∷ 11 ∷ 11 ∷ 11 ∷ 8 ∷ 14 ∷ 18 ∷ 14 ∷ 0 ∷ []);
    }
    -- `enum E { A = 1 B = 2 }`
    ∷ record { list = "kind text\ni enum\ni E\no {\ni A\np =\nl 1\ni B\np =\nl 2\nc }\n"; expected = accepted }
    -- `enum E { A B }`
    ∷ record { list = "kind text\ni enum\ni E\no {\ni A\ni B\nc }\n"; expected = refused 20 4 }
    -- `enum E { A = - 9223372036854775808 }`
    ∷ record {
      list = "kind text\ni enum\ni E\no {\ni A\np =\np -\nl 9223372036854775808\nc }\n";
      expected = refused 26 6;
    }
    -- with 807 at its end
    ∷ record { list = "kind text\ni enum\ni E\no {\ni A\np =\np -\nl 9223372036854775807\nc }\n"; expected = accepted }
    -- `struct A { a : u8 > }`
    ∷ record { list = "kind text\ni struct\ni A\no {\ni a\np :\ni u8\np >\nc }\n"; expected = refused 15 6 }
    -- `struct A < T`
    ∷ record { list = "kind text\ni struct\ni A\np <\ni T\n"; expected = refused 14 2 }
    -- `struct A < '`
    ∷ record { list = "kind text\ni struct\ni A\np <\np '\n"; expected = refused 24 3 }
    -- `struct A < const 3 >`
    ∷ record { list = "kind text\ni struct\ni A\np <\ni const\nl 3\np >\n"; expected = refused 27 4 }
    ∷ []
