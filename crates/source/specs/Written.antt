-- What is written is a token list, and its rows are the tokens of the text (document 02, card 1).
use Rattle.std.specs.Prelude.{◌≡◌, false, List, ℕ, length}
use Rattle.token_list.specs.Layout.{marked, first_row}
use Rattle.token_list.specs.Check.{check, passed}
use Rattle.token_list.specs.Stream.{rows_at}
use Rattle.source.specs.Lex.{lex}
use Rattle.source.specs.Answer.{wrote, rows_of, answer}

-- for a text s, into an output of n bytes
pub record IsTokenList (n : ℕ) (s : List ℕ) : Type 0 where
  pub passes : (t : List ℕ) → answer n s ≡ wrote t → check t ≡ passed (length (rows_of (lex s)))
  pub rows : (t : List ℕ) → answer n s ≡ wrote t → rows_at t (first_row t) ≡ rows_of (lex s)
  pub names : (t : List ℕ) → answer n s ≡ wrote t → marked t ≡ false
