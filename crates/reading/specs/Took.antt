-- What a reader answers: it takes the first rows of a stream, or refuses.
use Rattle.std.specs.Prelude.{List, [], ◌++◌, ℕ, ◌+◌, length}
use Rattle.token_list.specs.Check.{END}
use Rattle.token_list.specs.Stream.{Trees, end, leaf, group}

-- why a reader refuses: a token does not fit, or the reader's own stream gave out
pub data Cause : Type 0 where
  misfit gave_out : Cause

pub data Took (A : Type 0) : Type 0 where
  -- a value, the roles of the rows that were taken, and what is left of the stream
  took : A → List ℕ → Trees → Took A
  -- a refusal: its cause, number and place
  stopped : Cause → ℕ → ℕ → Took A

abbrev pub refuse : {A : Type 0} → ℕ → ℕ → Took A
refuse n p = stopped misfit n p

abbrev pub ran_out_lem : {A : Type 0} → ℕ → ℕ → Took A
ran_out_lem n p = stopped gave_out n p

-- from the number of the first row and the stream
abbrev pub Reader : Type 0 → Type 0
Reader A = ℕ → Trees → Took A

-- rows taken before
abbrev pub onward : {A : Type 0} → List ℕ → Took A → Took A
onward rs (took a qs us) = took a (rs ++ qs) us
onward rs (stopped w n p) = stopped w n p

-- things read before, with the roles of their rows
abbrev pub gathered : {A : Type 0} → List A → List ℕ → Took (List A) → Took (List A)
gathered xs rs (took ys qs us) = took (xs ++ ys) (rs ++ qs) us
gathered xs rs (stopped w n p) = stopped w n p

abbrev pub after : {A B : Type 0} → ℕ → Took A → (A → Reader B) → Took B
after row (took a rs us) f = onward rs (f a (row + length rs) us)
after row (stopped w n p) f = stopped w n p

infixl 20 ◌>>=◌
abbrev pub ◌>>=◌ : {A B : Type 0} → Reader A → (A → Reader B) → Reader B
◌>>=◌ m f row ts = after row (m row ts) f

abbrev pub pure : {A : Type 0} → A → Reader A
pure a row ts = took a [] ts

-- the place of what stands first: its row, or the end mark
abbrev pub place_of : ℕ → Trees → ℕ
place_of row end = END
place_of row (leaf r ts) = row
place_of row (group d ts us) = row

abbrev pub cause_of : Trees → Cause
cause_of end = gave_out
cause_of (leaf r ts) = misfit
cause_of (group d ts us) = misfit

abbrev pub wrong : {A : Type 0} → ℕ → Reader A
wrong n row ts = stopped (cause_of ts) n (place_of row ts)

-- a point of a stream: the number of its first row, and what is left
pub record Point : Type 0 where
  pub row : ℕ
  pub stream : Trees

-- past what was taken at a point; at that point where it was refused
abbrev pub past_taken : {A : Type 0} → Point → Took A → Point
past_taken x (took a rs us) = record { row = x.row + length rs; stream = us }
past_taken x (stopped w n p) = x

-- past what a reader takes at a point
abbrev pub beyond : {A : Type 0} → Reader A → Point → Point
beyond m x = past_taken x (m x.row x.stream)
