-- A refusal where a declaration is read: its number, with the end mark or a row of the list.
use mathlib.Core.Path.{◌≡◌, refl, ap, ◌∙◌, subst}
use mathlib.Core.Logic.{◌⊎◌, inl, inr}
use mathlib.Core.Bool.{Bool, true, false, ◌&&◌, ◌||◌}
use mathlib.Core.List.{List}
use Prim.Native.Nat.{ℕ}
use native.Mathlib.Omega.{arith}
use borrow.Author.Tests.{leb-true, le-leb}
use lib.Dec.{leb, ltb}
use Rattle.token_list.specs.Layout.{first_row}
use Rattle.token_list.specs.Text.{between}
use Rattle.token_list.specs.Check as list
use Rattle.token_list.specs.Check.{END}
use Rattle.token_list.specs.Place.{RowOf, OneRefusal}
use Rattle.token_list.specs.Stream.{size, at}
use Rattle.token_list.proofs.Texts.{and_parts, and_both}
use Rattle.token_list.proofs.Bounds.{bounds, check-refusal}
use Rattle.token_list.proofs.Passed.{passed_list}
use Rattle.reading.specs.Declaration.{Declaration}
use Rattle.reading.specs.Took.{Took, took, Cause, stopped}
use Rattle.reading.specs.Answer.{framed, answer, item_answer, read_number}
use Rattle.reading.specs.Answer.{refused as refused-at}
use Rattle.reading.specs.Reading as r
use Rattle.reading.proofs.Frame.{framed_cases}
use Rattle.reading.proofs.Rounds.{PlaceBelow, at_end, at_row}
use Rattle.reading.proofs.Conserved.{item_conserved, refusal-number, refusal_place}

or_second : (t : Bool) {u : Bool} → u ≡ true → (t || u) ≡ true
or_second true e = refl
or_second false e = e

module _ (s : List ℕ) where
  pub check_read : (n p : ℕ) → list.check s ≡ list.Answer.refused n p → OneRefusal read_number s n p
  check_read n p e =
      let o = check-refusal s n p e in
      let h = and_parts (leb 1 n) (leb n 7) o.one in
      let low : (leb 1 n && leb n 8) ≡ true = and_both _ _ h.0 (le-leb n 8 (omega (arith, leb-true n 7 h.1))) in
      record { one = ap (λ (t : Bool). t || between 11 27 n) low; stands = o.stands }

  pub short_read : OneRefusal read_number s 8 END
  short_read = record { one = refl; stands = inl refl }

  pub item_read : (rows : ℕ) {w : Cause} (n p : ℕ) → list.check s ≡ list.Answer.passed rows →
      r.item 0 (at s (first_row s)).here ≡ stopped w n p →
      OneRefusal read_number s n p
  item_read rows {w} n p e q =
      let told = item_conserved (at s (first_row s)).here q in
      record { one = or_second (between 1 8 n) (refusal-number told); stands = standing (refusal_place told) }
    where
      standing : {p : ℕ} → PlaceBelow (size (at s (first_row s)).here) p → (p ≡ END) ⊎ RowOf s p
      standing at_end = inl refl
      standing (at_row l) = let k = bounds s e in let m = (passed_list s rows e).size in
          inr (record { begins = omega (arith, m, k.begun, l); low = omega (arith, m, k.rows, l) })

  -- of every answer that tells a refusal as it is
  pub refusals : {A : Type 0} (denied : ℕ → ℕ → A) (short : ℕ → Bool) (made : Took Declaration → A)
      → ((n p m o : ℕ) → denied m o ≡ denied n p → (m ≡ n) × (o ≡ p)) →
      ((n p : ℕ) (t : Took Declaration) → made t ≡ denied n p → (w : Cause) × (t ≡ stopped w n p))
      → (n p : ℕ) → framed denied short made s (list.check s) ≡ denied n p → OneRefusal read_number s n p
  refusals {A} denied short made told plain n p =
      framed_cases (λ (a : A). a ≡ denied n p → OneRefusal read_number s n p) denied short made s
      (λ m o e q. check_read n p (e ∙ (λ j. list.Answer.refused ((told n p m o q).0 j) ((told n p m o q).1 j))))
      (λ rows e h q. subst (λ (m : ℕ). OneRefusal read_number s m p) (told n p 8 END q).0
      (subst (OneRefusal read_number s 8) (told n p 8 END q).1 short_read))
      (λ rows e h t i q. item_read rows n p e (i ∙ (plain n p t q).1))

  pub answer_read : (room n p : ℕ) → answer s room ≡ refused-at n p → OneRefusal read_number s n p
  unfolding answer
  answer_read room = refusals refused-at (λ rows. ltb room rows) item_answer (λ n p m o q. ((cc), (cc))) plain
    where
      plain : (n p : ℕ) (t : Took Declaration) → item_answer t ≡ refused-at n p → (w : Cause) × (t ≡ stopped w n p)
      plain n p (took d rs us) q = let z : ◌≡◌ {A = ℕ} 0 1 = cc in absurd (omega arith)
      plain n p (stopped w m o) q = (w, (cc))
