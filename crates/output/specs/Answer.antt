-- The answer of a function that writes a text into a lent output (document 01, "What the reader hands back": the
-- output's length is looked at last, and past the written part the output keeps its bytes).
use Rattle.std.specs.Prelude.{cond, List, ℕ, ltb, length}
use Rattle.std.proofs.lemmas.List.Edits.{sets}
use Rattle.token_list.specs.Check as list
use Rattle.output.specs.Text.{refusal_text}

pub data Answer : Type 0 where
  -- the text
  wrote : List ℕ → Answer
  -- the refusal's number and place
  refused : ℕ → ℕ → Answer

-- in an output of n bytes
abbrev pub fitted : ℕ → Answer → Answer
fitted n (wrote t) = cond (ltb n (length t)) (refused 8 list.END) (wrote t)
fitted n (refused m p) = refused m p

-- the output: the text, and past it the bytes that stood there; after a refusal all stay
abbrev pub output : List ℕ → Answer → List ℕ
output x (wrote t) = sets x 0 t
output x (refused n p) = x

-- what a program prints: the text, or the refusal
abbrev pub answer_text : Answer → List ℕ
answer_text (wrote t) = t
answer_text (refused n p) = refusal_text n p
