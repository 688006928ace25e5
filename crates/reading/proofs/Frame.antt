-- What holds of every answer about a declaration, by the three steps of its frame.
use mathlib.Core.Path.{◌≡◌, refl}
use mathlib.Core.Bool.{Bool, true, false, cond}
use mathlib.Core.List.{List}
use Prim.Native.Nat.{ℕ}
use Rattle.token_list.specs.Check as list
use Rattle.token_list.specs.Layout.{first_row}
use Rattle.token_list.specs.Stream.{at}
use Rattle.reading.specs.Declaration.{Declaration}
use Rattle.reading.specs.Took.{Took}
use Rattle.reading.specs.Reading.{item}
use Rattle.reading.specs.Answer.{framed}

module _ {A : Type 0} (P : A → Type 0) (refused : ℕ → ℕ → A) (short : ℕ → Bool) (made : Took Declaration → A)
    (s : List ℕ)
    (checked : (n p : ℕ) → list.check s ≡ list.Answer.refused n p → P (refused n p))
    (lacking : (rows : ℕ) → list.check s ≡ list.Answer.passed rows → short rows ≡ true → P (refused 8 list.END))
    (read : (rows : ℕ) → list.check s ≡ list.Answer.passed rows → short rows ≡ false → (t : Took Declaration)
    → item 0 (at s (first_row s)).here ≡ t → P (made t)) where
  by_room : (rows : ℕ) → list.check s ≡ list.Answer.passed rows → (b : Bool) → short rows ≡ b
      → P (cond b (refused 8 list.END) (made (item 0 (at s (first_row s)).here)))
  by_room rows e true h = lacking rows e h
  by_room rows e false h = read rows e h (item 0 (at s (first_row s)).here) refl

  by_check : (a : list.Answer) → list.check s ≡ a → P (framed refused short made s a)
  by_check (list.Answer.refused n p) e = checked n p e
  by_check (list.Answer.passed rows) e = by_room rows e (short rows) refl

  pub framed_cases : P (framed refused short made s (list.check s))
  framed_cases = by_check (list.check s) refl
