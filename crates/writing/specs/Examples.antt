-- Lists, and what a writer answers for each: the forms of docs/DIFFERENCES.md, "Writers", and of refusal 30.
use Rattle.std.specs.Prelude.{Bool, true, false, ◌&&◌, List, [], ◌∷◌, eqb}
use Prim.Native.String.{String}
use Rattle.token_list.specs.Byte.{bytes}
use Rattle.token_list.specs.Check.{END}
use Rattle.token_list.specs.Text.{same}
use Rattle.output.specs.Answer.{Answer, wrote, refused}
use Rattle.writing.specs.Answer.{Writer, impl_generics_lem, type_generics_lem, with_additional_lem, full_answer}

pub record Example : Type 0 where
  pub writer : Writer
  pub list : String
  pub expected : Answer

-- a list that is written, as a text
abbrev gives : String → Answer
gives t = wrote (bytes t)

abbrev pub agrees : Answer → Answer → Bool
agrees (wrote t) (wrote u) = same t u
agrees (wrote t) (refused m q) = false
agrees (refused n p) (wrote u) = false
agrees (refused n p) (refused m q) = eqb n m && eqb p q

abbrev pub all_agree : List Example → Bool
all_agree [] = true
all_agree (e ∷ es) = agrees e.expected (full_answer e.writer (bytes e.list)) && all_agree es

-- the lifetime `x`, and the types `Y` and `Z`
abbrev added : Writer
added = with_additional_lem (bytes "x\n") (bytes "Y\nZ")

-- an empty line, and a name that begins with a digit
abbrev empty_name : Writer
empty_name = with_additional_lem (bytes "\n") []

abbrev digit_name : Writer
digit_name = with_additional_lem [] (bytes "9")

-- `struct A ;`
abbrev WITHOUT : String
WITHOUT = "kind text\ni struct\ni A\np ;\n"

-- `struct A < ' a , const N : [ u ] , T = Y > ;`
abbrev MIXED : String
MIXED = "kind text\ni struct\ni A\np <\np '\ni a\np ,\ni const\ni N\np :\no [\ni u\nc ]\np ,\ni T\np =\ni Y\np >\np ;\n"

abbrev pub examples : List Example
examples =
    -- no generics: the line of names alone, even with added names
    record { writer = impl_generics_lem; list = WITHOUT; expected = gives "kind text\n" }
    ∷ record { writer = added; list = WITHOUT; expected = gives "kind text\n" }
    -- 30 is given all the same
    ∷ record { writer = empty_name; list = WITHOUT; expected = refused 30 END }
    ∷ record { writer = digit_name; list = WITHOUT; expected = refused 30 END }
    -- `struct A < > ;`
    ∷ record {
      writer = impl_generics_lem;
      list = "kind text\ni struct\ni A\np <\np >\np ;\n";
      expected = gives "kind text\np <\np >\n";
    }
    ∷ record {
      writer = added;
      list = "kind text\ni struct\ni A\np <\np >\np ;\n";
      expected = gives "kind text\np <\np '\ni x\np ,\ni Y\np ,\ni Z\np >\n";
    }
    -- a default is omitted, a const's run kept; `,` stands between parameters alone
    ∷ record {
      writer = impl_generics_lem;
      list = MIXED;
      expected = gives "kind text\np <\np '\ni a\np ,\ni const\ni N\np :\no [\ni u\nc ]\np ,\ni T\np >\n";
    }
    ∷ record {
      writer = type_generics_lem;
      list = MIXED;
      expected = gives "kind text\np <\np '\ni a\np ,\ni N\np ,\ni T\np >\n";
    }
    -- added lifetimes first, added types last: `struct A < T : X = Y , > ;`
    ∷ record {
      writer = added;
      list = "kind text\ni struct\ni A\np <\ni T\np :\ni X\np =\ni Y\np ,\np >\np ;\n";
      expected = gives "kind text\np <\np '\ni x\np ,\ni T\np :\ni X\np =\ni Y\np ,\ni Y\np ,\ni Z\np >\n";
    }
    -- a const without type gains a `:`, and a lifetime's empty bound loses its own: `struct A < const N ' a : > ;`
    ∷ record {
      writer = impl_generics_lem;
      list = "kind text\ni struct\ni A\np <\ni const\ni N\np '\ni a\np :\np >\np ;\n";
      expected = gives "kind text\np <\ni const\ni N\np :\np ,\np '\ni a\np >\n";
    }
    -- with marks: a run keeps its own, `struct A < T : a :: b > ;`
    ∷ record {
      writer = impl_generics_lem;
      list = "kind joint text\ni 0 struct\ni 0 A\np 0 <\ni 0 T\np 0 :\ni 0 a\np 1 :\np 0 :\ni 0 b\np 0 >\np 0 ;\n";
      expected = gives "kind joint text\np 0 <\ni 0 T\np 0 :\ni 0 a\np 1 :\np 0 :\ni 0 b\np 0 >\n";
    }
    -- but each `'` goes out joint, `struct A < const N : & ' c > ;`
    ∷ record {
      writer = impl_generics_lem;
      list = "kind joint text\ni 0 struct\ni 0 A\np 0 <\ni 0 const\ni 0 N\np 0 :\np 1 &\np 0 '\ni 0 c\np 0 >\np 0 ;\n";
      expected = gives "kind joint text\np 0 <\ni 0 const\ni 0 N\np 0 :\np 1 &\np 1 '\ni 0 c\np 0 >\n";
    }
    -- and the rows that are added have marks, `struct A < ' a > ;`
    ∷ record {
      writer = added;
      list = "kind joint text\ni 0 struct\ni 0 A\np 0 <\np 0 '\ni 0 a\np 0 >\np 0 ;\n";
      expected = gives
          "kind joint text\np 0 <\np 1 '\ni 0 x\np 0 ,\np 1 '\ni 0 a\np 0 ,\ni 0 Y\np 0 ,\ni 0 Z\np 0 >\n";
    }
    ∷ []
