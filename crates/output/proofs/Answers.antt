-- Laws on the answers of functions that write a text.
use Rattle.std.specs.Prelude.{Result, Ok, Err}
use mathlib.Core.Path.{◌≡◌, refl, ap, ◌∙◌, sym, subst⁻¹}
use mathlib.Core.Logic.{◌⊎◌, inl, inr}
use mathlib.Core.Bool.{Bool, true, false, cond}
use mathlib.Core.List.{List, ◌++◌, append_assoc}
use Prim.Native.Nat.{ℕ, ◌+◌, ◌≤◌, ◌<◌}
use native.Mathlib.Omega.{arith}
use borrow.Author.Tests.{ltb-false, lt-ltb, le-ltb}
use lib.Dec.{ltb}
use lib.ListN.{length, take, drop, length-append, take-append-drop}
use lib.Seq.{sets, length-take-le, length-sets, sets-eq, take-append-le, drop-append-le}
use Rattle.token_list.specs.Check as list
use Rattle.token_list.specs.declared.check.Refusal.{Refusal}
use Rattle.token_list.proofs.Texts.{chosen, passed_over}
use Rattle.output.specs.Text.{refusal_text}
use Rattle.output.specs.Contract.{further, Put, Printed}
use Rattle.output.specs.Answer.{Answer, wrote, refused, fitted, output, answer_text}
use Rattle.output.specs.Written.{answer_of, WrittenAs}
use Rattle.output.proofs.Texts.{kept, shown}

-- ## A text that was measured

module _ {x : List ℕ} (text : List ℕ) where
  pub fits_not : (n : ℕ) → n ≡ further 0 (length text) → length x < n →
      WrittenAs x x (fitted (length x) (wrote text)) (Err (record { number = 8; place = list.END }))
  fits_not n e h =
      let q = chosen _ (refused 8 list.END) (wrote text) (lt-ltb (length x) (length text) (omega (arith, e, h))) in
      record { room = tt; answer = sym q; output = sym (ap (output x) q) }

  pub fits : {y : List ℕ} (n : ℕ) → n ≡ further 0 (length text) → n ≤ length x → {r : ℕ} → Put x y 0 r text →
      WrittenAs x y (fitted (length x) (wrote text)) (Ok r)
  fits {y} n e h {r} p =
      let short = le-ltb (length x) (length text) (omega (arith, p.short)) in
      let q = passed_over _ (refused 8 list.END) (wrote text) short in
      let room : r ≤ length x = omega (arith, p.next) in
      record {
        room = omega (arith, kept p);
        answer = ap wrote (shown p room) ∙ sym q;
        output = p.bytes ∙ sym (ap (output x) q);
      }

-- ## An answer by its steps

pub written_as : {x y : List ℕ} {r : Result ℕ Refusal} {a b : Answer} → b ≡ a → WrittenAs x y a r → WrittenAs x y b r
written_as {x} {y} {r} e p = subst⁻¹ (λ (z : Answer). WrittenAs x y z r) e p

pub written_refused : {x : List ℕ} {r : Refusal} {a : Answer} → a ≡ refused r.number r.place →
    WrittenAs x x a (Err r)
written_refused {x} e = record { room = tt; answer = sym e; output = sym (ap (output x) e) }

-- the first e bytes of an output x were lent
module _ (x : List ℕ) (e : ℕ) (within : e ≤ length x) where
  front_length : length (take e x) ≡ e
  front_length = length-take-le e x within

  -- a text at the start of these bytes stands at the start of the output
  sets_front : (t : List ℕ) → length t ≤ e → sets (take e x) 0 t ++ drop e x ≡ sets x 0 t
  sets_front t h =
      let front = take e x in
      let rest = drop (0 + length t) front in
      ap (λ (l : List ℕ). l ++ drop e x) (sets-eq t front 0 (omega (arith, front_length)))
      ∙ append_assoc t rest (drop e x)
      ∙ ap (λ (l : List ℕ). t ++ l)
      (sym (drop-append-le (0 + length t) front (drop e x) (omega (arith, front_length)))
      ∙ ap (drop (0 + length t)) (take-append-drop e x))
      ∙ sym (sets-eq t x 0 (omega arith))

  pub widened : {y : List ℕ} {a : Answer} (r : Result ℕ Refusal)
      → WrittenAs (take e x) y a r → WrittenAs x (y ++ drop e x) a r
  widened {y} {a} (Ok n) h =
      let text = take n y in
      let same : a ≡ wrote text = sym h.answer in
      let filled : y ≡ sets (take e x) 0 text = h.output ∙ ap (output (take e x)) same in
      let long : length y ≡ e = ap length filled ∙ length-sets (take e x) 0 text ∙ front_length in
      let few : length text ≤ e = omega (arith, length-take-le n y h.room, h.room, long) in
      record {
        room = omega (arith, length-append y (drop e x), h.room);
        answer = ap wrote (take-append-le n y (drop e x) h.room) ∙ h.answer;
        output = ap (λ (l : List ℕ). l ++ drop e x) filled ∙ sets_front text few ∙ sym (ap (output x) same);
      }
  widened {y} {a} (Err r) h =
      let same : a ≡ refused r.number r.place = sym h.answer in
      let kept = h.output ∙ ap (output (take e x)) same in
      record {
        room = tt;
        answer = h.answer;
        output = ap (λ (l : List ℕ). l ++ drop e x) kept ∙ take-append-drop e x ∙ sym (ap (output x) same);
      }

-- ## An answer in an output of n bytes

-- a text that was written is the text
pub fitted_wrote : {t : List ℕ} (n : ℕ) (a : Answer) → fitted n a ≡ wrote t → a ≡ wrote t
fitted_wrote {t} n (wrote u) e = go (ltb n (length u)) e
  where
    go : (b : Bool) → cond b (refused 8 list.END) (wrote u) ≡ wrote t → wrote u ≡ wrote t
    go true q = cc
    go false q = q
fitted_wrote n (refused m p) e = cc

-- a refusal stood before, or it is 8
pub fitted_refused : {m p : ℕ} (n : ℕ) (a : Answer) → fitted n a ≡ refused m p
    → (a ≡ refused m p) ⊎ (refused 8 list.END ≡ refused m p)
fitted_refused {m} {p} n (wrote t) e = go (ltb n (length t)) e
  where
    go : (b : Bool) → cond b (refused 8 list.END) (wrote t) ≡ refused m p
        → (wrote t ≡ refused m p) ⊎ (refused 8 list.END ≡ refused m p)
    go true q = inr q
    go false q = inl q
fitted_refused n (refused o q) e = inl e

-- a text that was written has room
pub fitted_length : {t : List ℕ} (n : ℕ) (a : Answer) → fitted n a ≡ wrote t → length t ≤ n
fitted_length {t} n (wrote u) e = go (ltb n (length u)) refl e
  where
    go : (b : Bool) → ltb n (length u) ≡ b → cond b (refused 8 list.END) (wrote u) ≡ wrote t → length t ≤ n
    go true h q = let z : ◌≡◌ {A = ℕ} 0 1 = cc in absurd (omega arith)
    go false h q =
        let same : u ≡ t = cc in
        omega (arith, ap length same, ltb-false n (length u) h)
fitted_length n (refused m p) e = let z : ◌≡◌ {A = ℕ} 0 1 = cc in absurd (omega arith)

-- whether no text is longer
abbrev pub Within : ℕ → Answer → Type 0
Within n (wrote t) = length t ≤ n
Within n (refused m p) = Unit {0}

-- an output that is long enough changes nothing
pub fitted-same : {most : ℕ} (n : ℕ) (a : Answer) → Within most a → most ≤ n → fitted n a ≡ a
fitted-same n (wrote t) h l = passed_over _ _ _ (le-ltb n (length t) (omega arith))
fitted-same n (refused m p) h l = refl

-- ## What is printed

module _ {x y : List ℕ} {a : Answer} where
  pub text_printed : {n : ℕ} → WrittenAs x y a (Ok n) → Printed x y n (answer_text a)
  text_printed {n} l =
      let q : a ≡ answer_of y (Ok n) = sym l.answer in
      rw q (record { counted = sym (length-take-le n y l.room); bytes = l.output ∙ ap (output x) q })

  pub refusal_printed : {z : List ℕ} {n : ℕ} {r : Refusal} → WrittenAs x y a (Err r) →
      Printed y z n (refusal_text r.number r.place) → Printed x z n (answer_text a)
  refusal_printed {z} {n} {r} l p =
      let q : a ≡ refused r.number r.place = sym l.answer in
      let same : y ≡ x = l.output ∙ ap (output x) q in
      rw q (rw same at p)
