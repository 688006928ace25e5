-- Each group closed by its own close (document 02, card 1).
use Rattle.std.specs.Prelude.{cond, List, [], ◌∷◌, ℕ, eqb}
use Rattle.token_list.specs.Layout.{OPEN, CLOSE}
use Rattle.token_list.specs.Text.{closer}
use Rattle.token_list.specs.Row.{first}
use Rattle.source.specs.Lex.{Token, Lexed, end, token, stops}

-- a group that is open: its delimiter, and where it stands
pub record Open : Type 0 where
  pub delimiter : ℕ
  pub offset : ℕ

-- all is well, or 40 at an offset
pub data Matched : Type 0 where
  sound : Matched
  faulty : ℕ → Matched

-- a closing row under the open groups os, innermost first
abbrev pub close : Token → List Open → (List Open → Matched) → Matched
close t [] go = faulty t.offset
close t (o ∷ os) go = cond (eqb (closer o.delimiter) (first t.row.text)) (go os) (faulty t.offset)

abbrev pub bracket : Token → List Open → (List Open → Matched) → Matched
bracket t os go =
    cond (eqb t.row.kind OPEN) (go (record { delimiter = first t.row.text; offset = t.offset } ∷ os))
    (cond (eqb t.row.kind CLOSE) (close t os go) (go os))

-- the first text that is none, or close without its open; and at the end the innermost group that is left open
abbrev pub brackets : List Open → Lexed → Matched
brackets [] end = sound
brackets (o ∷ os) end = faulty o.offset
brackets os (stops offset) = faulty offset
brackets os (token t ts) = bracket t os (λ ps. brackets ps ts)
