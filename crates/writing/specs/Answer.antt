-- The whole answer of each writer (document 01, "What the reader hands back": the list check, the
-- reading left to right, then 30, and the output's length last).
use Rattle.std.specs.Prelude.{◌≡◌, Bool, true, false, cond, ◌&&◌, ◌||◌, List, ℕ, ◌+◌, ◌*◌, ◌≤◌, eqb, length}
use Rattle.token_list.specs.Layout.{marked, MAX_BYTES, MAX_ROWS}
use Rattle.token_list.specs.Rows.{list_of}
use Rattle.token_list.specs.Check as list
use Rattle.reading.specs.Declaration.{Parameter, Declaration}
use Rattle.reading.specs.Took.{Took, took, stopped}
use Rattle.reading.specs.Answer.{framed, read_number}
use Rattle.output.specs.Answer.{Answer, wrote, refused, fitted}
use Rattle.writing.specs.Generics as generics
use Rattle.writing.specs.Names.{names_of, right_names}

-- a writer, by what it makes of the declared parameters, and whether every added name is right
pub record Writer : Type 0 where
  pub parameters : List Parameter → List Parameter
  pub right : Bool

abbrev pub impl_generics_lem : Writer
impl_generics_lem = record { parameters = generics.declared; right = true }

abbrev pub type_generics_lem : Writer
type_generics_lem = record { parameters = generics.names; right = true }

-- of the texts of lifetimes and types
abbrev pub with_additional_lem : List ℕ → List ℕ → Writer
with_additional_lem ls ts =
    record {
      parameters = generics.additional (names_of ls) (names_of ts);
      right = right_names (names_of ls) && right_names (names_of ts);
    }

-- the list that is written for a declaration, with marks or without
abbrev pub text : Bool → Writer → Declaration → List ℕ
text m w d = list_of m (generics.generics_rows w.parameters d.generics)

-- 30 is given also where the declaration has no generics
abbrev pub item_answer : Bool → Writer → Took Declaration → Answer
item_answer m w (took d rs us) = cond w.right (wrote (text m w d)) (refused 30 list.END)
item_answer m w (stopped c n p) = refused n p

-- for a list, with its own names, where there is room
unfoldable pub full_answer : Writer → List ℕ → Answer
full_answer w s = framed refused (λ rows. false) (item_answer (marked s) w) s (list.check s)

-- for a list and an output of n bytes
unfoldable pub answer : Writer → List ℕ → ℕ → Answer
answer w s n = fitted n (full_answer w s)

-- the numbers of a writer's refusals
abbrev pub write_number : ℕ → Bool
write_number n = read_number n || eqb n 30

-- ## How long an output can be needed

-- a `,` and the `:` of a const that had none: two rows of at most six bytes for each parameter, which has a row in the
-- list
abbrev pub MOST : ℕ
MOST = MAX_BYTES + 12 * MAX_ROWS

-- added names: each has its bytes, its row's other five, a `,` and, as a lifetime, a `'`
abbrev pub added_bytes : List ℕ → List ℕ → ℕ
added_bytes ls ts = (length ls + 17 * length (names_of ls)) + (length ts + 11 * length (names_of ts))

abbrev pub most_with : List ℕ → List ℕ → ℕ
most_with ls ts = MOST + added_bytes ls ts

-- the same by the bytes of the texts alone: a name has at least one of them, its LF or its own
abbrev pub most_added : ℕ → ℕ → ℕ
most_added l t = MOST + (18 * l + 12 * t)

-- a writer that never needs more than `most` bytes, of a list s and an output of n bytes
pub record Fits (w : Writer) (most : ℕ) (s : List ℕ) (n : ℕ) : Type 0 where
  pub longest : (t : List ℕ) → full_answer w s ≡ wrote t → length t ≤ most
  -- an output of that length has room
  pub room : most ≤ n → answer w s n ≡ full_answer w s
