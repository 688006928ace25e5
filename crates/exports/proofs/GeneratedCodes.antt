-- The number of the answer of a writer of generics, of whose output the first bytes are used.
use mathlib.Core.Path.{◌≡◌, refl, ◌∙◌, sym, subst}
use mathlib.Core.List.{List, ◌++◌}
use Prim.Native.Nat.{ℕ, ◌≤◌, min}
use native.Mathlib.Omega.{arith}
use lib.ListN.{length, take, drop}
use lib.Seq.{length-take-le}
use Rattle.output.specs.Answer as outputs
use Rattle.output.specs.Written.{WrittenAs}
use Rattle.token_list.specs.declared.check.Refusal.{Refusal}
use Rattle.std.specs.Prelude.{Result}
use Rattle.output.proofs.Answers.{widened, fitted_length}
use Rattle.writing.specs.Answer.{Writer, answer, full_answer, write_number}
use Rattle.writing.proofs.Refusals.{write_refusal}
use Rattle.generate.specs.Contract.{Answered}
use Rattle.exports.specs.Code.{code, written_case, answer_case, LowPlace, MAX_OUTPUT, GeneratedInto}
use Rattle.exports.proofs.Codes.{Told, small, one, from_one, low_case, written_same, written_into}

wrote_short : (w : Writer) (s : List ℕ) (n : ℕ) {t : List ℕ} → answer w s n ≡ outputs.wrote t → length t ≤ n
unfolding answer
wrote_short w s n e = fitted_length n (full_answer w s) e

told : (w : Writer) (s : List ℕ) (n : ℕ) → n ≤ MAX_OUTPUT → Told write_number s (written_case (answer w s n))
told w s n h = go (answer w s n) refl
  where
    go : (a : outputs.Answer) → answer w s n ≡ a → Told write_number s (written_case a)
    go (outputs.wrote t) e = small {v = length t} (omega (arith, wrote_short w s n e))
    go (outputs.refused m p) e = let o = write_refusal w s n m p e in one (from_one write_number refl m o.one) o

-- the first e bytes of the output x were lent
module _ (w : Writer) (s x : List ℕ) (e : ℕ) (same : e ≡ min (length x) MAX_OUTPUT) where
  pub used_length : e ≡ length (take e x)
  used_length = sym (length-take-le e x (omega arith))

  module _ {y : List ℕ} {r : Result ℕ Refusal} (h : Answered w s (take e x) y r) where
    number : length (take e x) ≡ min (length x) MAX_OUTPUT
    number = sym used_length ∙ same

    written : WrittenAs x (y ++ drop e x) (answer w s (min (length x) MAX_OUTPUT)) r
    written =
        widened x e (omega arith) r (subst (λ (n : ℕ). WrittenAs (take e x) y (answer w s n) r) number h.answered)

    pub generated_low : LowPlace r
    generated_low = low_case (told w s (min (length x) MAX_OUTPUT) (omega arith)) r (written_same r written)

    pub generated_into : {c : ℕ} → c ≡ code (answer_case r) → GeneratedInto w s x (y ++ drop e x) c
    generated_into q = written_into (told w s (min (length x) MAX_OUTPUT) (omega arith)) r written q
