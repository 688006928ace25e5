-- What ties the code's brackets to the meaning: the groups that are open at an offset, and the cells that hold their
-- kinds.
use Rattle.std.specs.Prelude.{◌≡◌, true, cond, List, [], ◌∷◌, ℕ, zero, suc, ◌-◌, ◌*◌, ◌/◌, ◌%◌, ◌≤◌, ◌<◌, min, ltb, eqb}
use Rattle.std.specs.Prelude.{Option, Some, None, length, get_or, set, drop}
use Rattle.token_list.specs.Byte.{PARENTHESIS, BRACKET, BRACE}
use Rattle.token_list.specs.Layout.{OPEN, CLOSE}
use Rattle.token_list.specs.Text.{closer}
use Rattle.token_list.specs.Row.{first}
use Rattle.source.specs.Bytes.{opens}
use Rattle.source.specs.Lex.{Token, Lexed, end, token, stops, lex_from, lex}
use Rattle.source.specs.Brackets.{Open, Matched, faulty, brackets}
use Rattle.source.specs.Contract.{piece_end}
use Rattle.source.specs.declared.piece.Piece.{Piece}
use Rattle.source.specs.declared.piece.Piece.TheVariants as pieces

-- ## What stands from an offset on

-- the tokens of a text from an offset on
abbrev pub rest : List ℕ → ℕ → Lexed
rest s i = lex_from i 0 (drop i s)

-- a group that opens at an offset
abbrev pub open_at : List ℕ → ℕ → Open
open_at s i = record { delimiter = get_or s i 0; offset = i }

abbrev pub outer : List Open → List Open
outer [] = []
outer (o ∷ os) = os

abbrev pub opened : Token → List Open → List Open
opened t os =
    cond (eqb t.row.kind OPEN) (record { delimiter = first t.row.text; offset = t.offset } ∷ os)
    (cond (eqb t.row.kind CLOSE) (outer os) os)

-- the groups that are open at u, whether their closes fit or not, where os are open before these tokens
abbrev pub stack_to : ℕ → List Open → Lexed → List Open
stack_to u os end = os
stack_to u os (stops offset) = os
stack_to u os (token t ts) = cond (ltb t.offset u) (stack_to u (opened t os) ts) os

-- ## A piece at i, up to e

pub record Passing (s : List ℕ) (i e : ℕ) : Type 0 where
  pub brackets : (os : List Open) → brackets os (rest s i) ≡ brackets os (rest s e)
  pub stack : (u : ℕ) (os : List Open) → i < u → stack_to u os (rest s i) ≡ stack_to u os (rest s e)

pub record Opening (s : List ℕ) (i e : ℕ) : Type 0 where
  pub brackets : (os : List Open) → brackets os (rest s i) ≡ brackets (open_at s i ∷ os) (rest s e)
  pub stack : (u : ℕ) (os : List Open) → i < u → stack_to u os (rest s i) ≡ stack_to u (open_at s i ∷ os) (rest s e)
  pub delimiter : opens (get_or s i 0) ≡ true

-- a close at i, where go answers for what is behind it
abbrev pub close_at : List ℕ → ℕ → List Open → (List Open → Matched) → Matched
close_at s i [] go = faulty i
close_at s i (o ∷ os) go = cond (eqb (closer o.delimiter) (get_or s i 0)) (go os) (faulty i)

pub record Closing (s : List ℕ) (i e : ℕ) : Type 0 where
  pub brackets : (os : List Open) → brackets os (rest s i) ≡ close_at s i os (λ ps. brackets ps (rest s e))
  pub stack : (u : ℕ) (os : List Open) → i < u → stack_to u os (rest s i) ≡ stack_to u (outer os) (rest s e)

pub record Within (s : List ℕ) (i e : ℕ) : Type 0 where
  pub forth : i < e
  pub within : e ≤ length s

-- a piece that is no row of this kind
abbrev pub IsNot : ℕ → Piece → Type 0
IsNot k p = (e : ℕ) → p ≡ pieces.Row k e → ⊥

-- what a piece at i is to brackets
pub record StepAs (s : List ℕ) (i : ℕ) (p : Piece) : Type 0 where
  pub within : Within s i (piece_end p)
  pub opening : (e : ℕ) → p ≡ pieces.Row OPEN e → Opening s i (piece_end p)
  pub closing : (e : ℕ) → p ≡ pieces.Row CLOSE e → Closing s i (piece_end p)
  pub passing : IsNot OPEN p → IsNot CLOSE p → Passing s i (piece_end p)

-- ## The innermost group

-- r is where the innermost of these groups stands
pub data InnermostOf (s : List ℕ) (r : ℕ) : List Open → Type 0 where
  top : {o : Open} {os : List Open} → r ≡ o.offset → r < length s → get_or s r 0 ≡ o.delimiter
      → InnermostOf s r (o ∷ os)

-- of those that are open at u
abbrev pub InnermostAt : List ℕ → ℕ → ℕ → Type 0
InnermostAt s u r = InnermostOf s r (stack_to u [] (lex s))

-- ## The cells

-- how many kinds a cell holds
abbrev pub PER_CELL : ℕ
PER_CELL = 4

abbrev pub bits_of : ℕ → ℕ
bits_of d = cond (eqb d PARENTHESIS) 0 (cond (eqb d BRACKET) 1 2)

abbrev pub delimiter_of : ℕ → ℕ
delimiter_of b = cond (eqb b 0) PARENTHESIS (cond (eqb b 1) BRACKET BRACE)

-- the kinds that cells hold of so many groups, innermost first: each cell is a number with a digit for each kind
abbrev pub kinds : List ℕ → ℕ → List ℕ
kinds cells zero = []
kinds cells (suc d) =
    delimiter_of (get_or cells (d / PER_CELL) 0 % 4)
    ∷ kinds (set cells (d / PER_CELL) (get_or cells (d / PER_CELL) 0 / 4)) d

-- more than the number of a cell with so many kinds
abbrev pub capacity : ℕ → ℕ
capacity zero = 1
capacity (suc zero) = 4
capacity (suc (suc zero)) = 16
capacity (suc (suc (suc zero))) = 64
capacity (suc (suc (suc (suc n)))) = 256

abbrev pub delimiters_of : List Open → List ℕ
delimiters_of [] = []
delimiters_of (o ∷ os) = o.delimiter ∷ delimiters_of os

-- the cells hold the kinds of these groups, of the outermost as many as there is room for
pub record Held (cells : List ℕ) (os : List Open) : Type 0 where
  pub same : kinds cells (min (length os) (PER_CELL * length cells))
      ≡ delimiters_of (drop (length os - PER_CELL * length cells) os)
  pub room : (c : ℕ) → get_or cells c 0 < capacity (length os - PER_CELL * c)

-- what was taken out is this delimiter, or none
abbrev pub Told : Option ℕ → ℕ → Type 0
Told (Some d) e = d ≡ e
Told None e = Unit

-- r is the delimiter of o, taken out of the cells, or none where they do not hold it
pub record Popped (cells : List ℕ) (o : Open) (os : List Open) (r : Option ℕ) : Type 0 where
  pub held : Held cells os
  pub told : Told r o.delimiter

-- r is what was held, or where that is none the delimiter of the innermost group that is open at i
abbrev pub DelimiterAt : List ℕ → ℕ → Option ℕ → ℕ → Type 0
DelimiterAt s i (Some d) r = r ≡ d
DelimiterAt s i None r = (o : Open) (os : List Open) → stack_to i [] (lex s) ≡ o ∷ os → r ≡ o.delimiter

-- ## The walk

-- the text was read up to i, where the groups os are open
pub record ReachedBy (s cells : List ℕ) (i depth : ℕ) (os : List Open) : Type 0 where
  pub low : depth ≤ i
  pub brackets : brackets [] (lex s) ≡ brackets os (rest s i)
  pub stack : (u : ℕ) → i ≤ u → stack_to u [] (lex s) ≡ stack_to u os (rest s i)
  pub count : length os ≡ depth
  pub held : Held cells os

abbrev pub Reached : List ℕ → List ℕ → ℕ → ℕ → Type 0
Reached s cells i depth = (os : List Open) × ReachedBy s cells i depth os

-- behind a piece at i that ends at e
pub data TurnedAs (s cells : List ℕ) (i e : ℕ) : Option ℕ → Type 0 where
  turned : {d : ℕ} → Within s i e → Reached s cells e d → TurnedAs s cells i e (Some d)
  fault : brackets [] (lex s) ≡ faulty i → TurnedAs s cells i e None
