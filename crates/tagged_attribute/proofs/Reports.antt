-- Laws on the report, by the answer of the reader.
use mathlib.Core.Path.{◌≡◌, refl, sym, subst⁻¹}
use mathlib.Core.List.{List}
use Prim.Native.Nat.{ℕ, ◌≤◌}
use native.Mathlib.Omega.{arith}
use lib.ListN.{length}
use Rattle.std.specs.Prelude.{Option, Some, None, Result, Ok, Err}
use Rattle.token_list.specs.declared.check.Refusal.{Refusal}
use Rattle.output.specs.Text.{refusal_text}
use Rattle.output.specs.Contract.{Put, Printed}
use Rattle.output.proofs.Texts.{printed}
use Rattle.tagged_reading.specs.Entry.{Entry}
use Rattle.tagged_reading.specs.Reading.{Answer, none, read, refused}
use Rattle.tagged_reading.specs.Answer.{answer}
use Rattle.tagged_reading.proofs.Promise.{never_short}
use Rattle.tagged_attribute.specs.Contract.{EntriesOf, TaggedAs, Answered}
use Rattle.tagged_attribute.specs.Listing.{answer_text, MOST}
use Rattle.tagged_attribute.specs.Reported.{Reported}
use Rattle.tagged_attribute.specs.declared.utils.EntriesAt.{EntriesAt}
use Rattle.tagged_attribute.proofs.Lengths.{lines-short}

pub refused_as : (s : List ℕ) (f : Refusal) (a : Answer) → TaggedAs s (Err f) a → a ≡ refused f.number f.place
refused_as s f none h = absurd h
refused_as s f (read es rs) h = absurd h
refused_as s f (refused n p) h = λ i. refused (sym h.0 i) (sym h.1 i)

none_as : (s : List ℕ) (a : Answer) → TaggedAs s (Ok None) a → a ≡ none
none_as s none h = refl
none_as s (read es rs) h = absurd h
none_as s (refused n p) h = absurd h

-- the entries of an answer
pub record ReadAs (s : List ℕ) (e : EntriesAt) (a : Answer) : Type 0 where
  pub es : List Entry
  pub rs : List ℕ
  pub same : a ≡ read es rs
  pub of : EntriesOf s e es rs

pub read_as : (s : List ℕ) (e : EntriesAt) (a : Answer) → TaggedAs s (Ok (Some e)) a → ReadAs s e a
read_as s e none h = absurd h
read_as s e (read es rs) h = record { es = es; rs = rs; same = refl; of = h }
read_as s e (refused n p) h = absurd h

module _ {prefix s b0 b1 : List ℕ} where
  reported : {r : Result (Option EntriesAt) Refusal} {x y : List ℕ} {n : ℕ} {b : Answer}
      → Answered prefix s r b0 b1 → answer prefix s (length b0) ≡ b → Printed x y n (answer_text b) → n ≤ MOST
      → Reported prefix s b0 b1 x y n
  reported {x = x} {y} {n} h e p l =
      record {
        text = subst⁻¹ (λ (c : Answer). Printed x y n (answer_text c)) e p;
        short = l;
        roomy = never_short prefix s (length b0);
        refusal = h.refusal;
        buffer = h.buffer;
      }

  pub reported_refused : {x y : List ℕ} {n : ℕ} {f : Refusal} → Answered prefix s (Err f) b0 b1
      → length (refusal_text f.number f.place) ≤ 64 → Put x y 0 n (refusal_text f.number f.place)
      → Reported prefix s b0 b1 x y n
  reported_refused {f = f} h few p =
      reported h (refused_as s f _ h.answer) (printed p (omega (arith, few))) (omega (arith, p.next, few))

  pub reported_none : {x y : List ℕ} {n : ℕ} → Answered prefix s (Ok None) b0 b1 → Put x y 0 n (answer_text none)
      → Reported prefix s b0 b1 x y n
  reported_none h p = reported h (none_as s _ h.answer) (printed p (omega arith)) (omega (arith, p.next))

  pub reported_read : {e : EntriesAt} {x y : List ℕ} {n : ℕ} (h : Answered prefix s (Ok (Some e)) b0 b1)
      → (k : ReadAs s e (answer prefix s (length b0))) → Put x y 0 n (answer_text (read k.es k.rs))
      → Reported prefix s b0 b1 x y n
  reported_read h k p =
      let short = lines-short prefix s (length b0) k.es k.rs k.same in
      reported h k.same (printed p (omega (arith, short))) (omega (arith, p.next, short))

-- the same where the output is known by another name
pub reported_at : {prefix s b0 b1 x y z : List ℕ} {n : ℕ} → z ≡ y → Reported prefix s b0 b1 x y n
    → Reported prefix s b0 b1 x z n
reported_at {prefix} {s} {b0} {b1} {x} {n = n} e h = subst⁻¹ (λ (z : List ℕ). Reported prefix s b0 b1 x z n) e h
