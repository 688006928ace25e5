-- The answer of a writer by the steps of its frame; what every refusal is: one number, with a row or the end mark.
use mathlib.Core.Path.{◌≡◌, refl, ap, subst}
use mathlib.Core.Logic.{⊎_elim, inl}
use mathlib.Core.Bool.{Bool, true, false, cond, ◌||◌}
use mathlib.Core.List.{List}
use Prim.Native.Nat.{ℕ}
use native.Mathlib.Omega.{arith}
use lib.Dec.{eqb}
use Rattle.token_list.specs.Check as list
use Rattle.token_list.specs.Layout.{marked, first_row}
use Rattle.token_list.specs.Place.{OneRefusal}
use Rattle.token_list.specs.Stream.{at}
use Rattle.reading.specs.Declaration.{Declaration}
use Rattle.reading.specs.Took.{Took, took, stopped}
use Rattle.reading.specs.Reading.{item}
use Rattle.reading.specs.Answer.{framed, read_number}
use Rattle.reading.proofs.Frame.{framed_cases}
use Rattle.reading.proofs.Places.{check_read, item_read}
use Rattle.output.specs.Answer.{Answer, wrote, refused, fitted}
use Rattle.output.proofs.Answers.{fitted_refused}
use Rattle.writing.specs.Answer.{Writer, text, item_answer, full_answer, answer, write_number}

-- ## By the list check

module _ (w : Writer) (s : List ℕ) (n : ℕ) where
  abbrev fitted_by : list.Answer → Answer
  fitted_by a = fitted n (framed refused (λ rows. false) (item_answer (marked s) w) s a)

  pub write_checked : {m p : ℕ} → list.check s ≡ list.Answer.refused m p → answer w s n ≡ refused m p
  unfolding answer full_answer
  write_checked e = ap fitted_by e

  pub write_read : {rows : ℕ} → list.check s ≡ list.Answer.passed rows
      → answer w s n ≡ fitted n (item_answer (marked s) w (item 0 (at s (first_row s)).here))
  unfolding answer full_answer
  write_read e = ap fitted_by e

-- ## Refusals

module _ (w : Writer) (s : List ℕ) where
  abbrev Told : Answer → Type 0
  Told a = (n p : ℕ) → a ≡ refused n p → OneRefusal write_number s n p

  -- the same number and place
  told : (m o : ℕ) → OneRefusal write_number s m o → Told (refused m o)
  told m o h n p e =
      let number : m ≡ n = cc in
      let place : o ≡ p = cc in
      subst (λ (i : ℕ). OneRefusal write_number s i p) number (subst (OneRefusal write_number s m) place h)

  wrote_told : (t : List ℕ) → Told (wrote t)
  wrote_told t n p e = let z : ◌≡◌ {A = ℕ} 0 1 = cc in absurd (omega arith)

  read_told : (m o : ℕ) → OneRefusal read_number s m o → Told (refused m o)
  read_told m o h = told m o (record { one = ap (λ (b : Bool). b || eqb m 30) h.one; stands = h.stands })

  at_end : (m : ℕ) → write_number m ≡ true → Told (refused m list.END)
  at_end m e = told m list.END (record { one = e; stands = inl refl })

  named : (t : List ℕ) (right : Bool) → Told (cond right (wrote t) (refused 30 list.END))
  named t true = wrote_told t
  named t false = at_end 30 refl

  item_told : (rows : ℕ) → list.check s ≡ list.Answer.passed rows → (t : Took Declaration)
      → item 0 (at s (first_row s)).here ≡ t → Told (item_answer (marked s) w t)
  item_told rows c (took d rs us) e = named (text (marked s) w d) w.right
  item_told rows c (stopped k m o) e = read_told m o (item_read s rows m o c e)

  fitted_told : (n : ℕ) (a : Answer) → Told a → Told (fitted n a)
  fitted_told n a h m p e = ⊎_elim (h m p) (at_end 8 refl m p) (fitted_refused n a e)

  -- in an output of n bytes
  pub write_refusal : (n : ℕ) → Told (answer w s n)
  unfolding answer full_answer
  write_refusal n =
      fitted_told n (full_answer w s) (framed_cases Told refused (λ rows. false) (item_answer (marked s) w) s
      (λ m o e. read_told m o (check_read s m o e)) (λ rows e h. at_end 8 refl) (λ rows e h t i. item_told rows e t i))
