-- The report of the list check.
use Rattle.std.specs.Prelude.{List, [], ◌∷◌, ◌++◌, ℕ}
use Rattle.token_list.specs.Byte.{bytes, LF}
use Rattle.token_list.specs.Check.{Answer, passed, refused}
use Rattle.output.specs.Text.{decimal, refusal_text}

abbrev pub ROWS : List ℕ
ROWS = bytes "rows "

-- the number of rows, or the refusal
abbrev pub answer_text : Answer → List ℕ
answer_text (passed n) = ROWS ++ (decimal n ++ LF ∷ [])
answer_text (refused n p) = refusal_text n p
