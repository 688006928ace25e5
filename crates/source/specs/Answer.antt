-- The whole answer for a source text (document 02, card 1: 40, 40 for a group left open, 41, 8).
use Rattle.std.specs.Prelude.{Bool, true, cond, false, ◌&&◌, List, [], ◌∷◌, ℕ, ◌+◌, ◌-◌, leb, ltb, eqb, length}
use Rattle.std.proofs.lemmas.List.Edits.{sets}
use Rattle.token_list.specs.Layout.{OPEN, CLOSE, MAX_BYTES, MAX_ROWS, MAX_TEXT, MAX_DEPTH}
use Rattle.token_list.specs.Row.{Row}
use Rattle.token_list.specs.Rows.{list_of}
use Rattle.token_list.specs.Check.{END}
use Rattle.source.specs.Lex.{Lexed, end, token, stops, lex}
use Rattle.source.specs.Brackets.{Matched, sound, faulty, brackets}

pub data Answer : Type 0 where
  -- the list
  wrote : List ℕ → Answer
  -- 40, at this offset
  fault_at : ℕ → Answer
  -- a refusal's number and place
  refused : ℕ → ℕ → Answer

abbrev pub rows_of : Lexed → List Row
rows_of end = []
rows_of (token t ts) = t.row ∷ rows_of ts
rows_of (stops offset) = []

-- ## The limits of document 01

abbrev pub short : List Row → Bool
short [] = true
short (r ∷ rs) = leb (length r.text) MAX_TEXT && short rs

-- never more than so many groups open, with d open before
abbrev pub shallow : ℕ → List Row → Bool
shallow d [] = true
shallow d (r ∷ rs) =
    cond (eqb r.kind OPEN) (ltb d MAX_DEPTH && shallow (d + 1) rs)
    (cond (eqb r.kind CLOSE) (shallow (d - 1) rs) (shallow d rs))

unfoldable pub within_limits : List Row → Bool
within_limits rs =
    (leb (length (list_of false rs)) MAX_BYTES && leb (length rs) MAX_ROWS) && (short rs && shallow 0 rs)

-- ## The answer

-- in an output of n bytes
abbrev pub fitted : ℕ → List ℕ → Answer
fitted n t = cond (ltb n (length t)) (refused 8 END) (wrote t)

abbrev pub matched_answer : ℕ → List Row → Matched → Answer
matched_answer n rs (faulty offset) = fault_at offset
matched_answer n rs sound = cond (within_limits rs) (fitted n (list_of false rs)) (refused 41 END)

unfoldable pub answer : ℕ → List ℕ → Answer
answer n s = matched_answer n (rows_of (lex s)) (brackets [] (lex s))

-- the output: the list, and past it the bytes that stood there; after a refusal all stay
abbrev pub output : List ℕ → Answer → List ℕ
output x (wrote t) = sets x 0 t
output x (fault_at offset) = x
output x (refused n p) = x
