-- The answer about a tagged attribute keeps the promise on roles, and each of its refusals is one number with a place.
use mathlib.Core.Path.{◌≡◌, refl, ap, ◌∙◌, sym, subst}
use mathlib.Core.Logic.{inl, inr, ⊎_elim}
use mathlib.Core.Bool.{Bool, true, false, cond, ◌&&◌, ◌||◌, false≢true}
use mathlib.Core.List.{List}
use Prim.Native.Nat.{ℕ, ◌≤◌, ◌<◌}
use native.Mathlib.Omega.{arith}
use borrow.Author.Tests.{ltb-true, ltb-false, leb-true, le-leb}
use lib.Dec.{ltb, leb}
use lib.ListN.{replicate}
use Rattle.token_list.specs.Layout.{first_row}
use Rattle.token_list.specs.Text.{between}
use Rattle.token_list.specs.Check as list
use Rattle.token_list.specs.Place.{RowOf, OneRefusal}
use Rattle.token_list.specs.Stream.{Trees, size, at}
use Rattle.token_list.proofs.Texts.{and_parts, and_both}
use Rattle.token_list.proofs.Bounds.{bounds, check-refusal}
use Rattle.token_list.proofs.Passed.{passed_list}
use Rattle.reading.specs.Role.{none as no-role}
use Rattle.reading.specs.Promise.{OneEach}
use Rattle.reading.proofs.Promise.{assigns_none, assigns_one}
use Rattle.tagged_reading.specs.Entry.{Entry}
use Rattle.tagged_reading.specs.Grammar as g
use Rattle.tagged_reading.specs.Grammar.{everything}
use Rattle.tagged_reading.specs.Reading.{Answer, none, read, refused, tagged}
use Rattle.tagged_reading.specs.Answer.{framed, answer, buffer, own_number_lem, tagged_number, reads}
use Rattle.tagged_reading.specs.Role.{is_role}
use Rattle.tagged_reading.specs.Promise.{Assignment, TaggedAssignment}
use Rattle.tagged_reading.proofs.Told as told
use Rattle.tagged_reading.proofs.Told.{AllTold, Assigned, tagged_told}
use Rattle.tagged_reading.proofs.Complete.{obeys_complete}

-- ## Assignments of a stream

pub obeys_unique : {ts : Trees} (prefix rs qs : List ℕ) → g.Obeys everything prefix ts rs
    → g.Obeys everything prefix ts qs → rs ≡ qs
obeys_unique prefix rs qs h k =
    let a = obeys_complete prefix h in
    let b = obeys_complete prefix k in
    let same : read a.0 rs ≡ read b.0 qs = sym a.1 ∙ b.1 in
    cc same

assigned : {ts : Trees} (prefix rs : List ℕ) → g.Obeys everything prefix ts rs → Assigned prefix ts rs
assigned {ts} prefix rs h =
    let a = obeys_complete prefix h in go (subst (AllTold prefix ts) a.1 (tagged_told prefix ts))
  where
    go : {es : List Entry} → AllTold prefix ts (read es rs) → Assigned prefix ts rs
    go (told.AllTold.reads qs k) = k

never : {es : List Entry} {rs : List ℕ} {n p : ℕ} → read es rs ≡ refused n p → ⊥
never e = let z : ◌≡◌ {A = ℕ} 0 1 = cc in omega arith

never_none : {es : List Entry} {rs : List ℕ} → read es rs ≡ none → ⊥
never_none e = let z : ◌≡◌ {A = ℕ} 0 1 = cc in omega arith

or_second : (t : Bool) {u : Bool} → u ≡ true → (t || u) ≡ true
or_second true e = refl
or_second false e = e

-- ## Lists

module _ (prefix s : List ℕ) where
  abbrev stream : Trees
  stream = (at s (first_row s)).here

  one_each : (k : ℕ) → list.check s ≡ list.Answer.passed k → (roles : List ℕ) → Assignment prefix s roles →
      OneEach is_role k roles
  one_each k e roles o =
      let a = assigned prefix roles o in
      record { counted = a.counted ∙ (passed_list s k e).size; named = a.named }

  module _ (n : ℕ) where
    -- no entries are read
    refusing : (a : Answer) → reads a ≡ false → buffer n a ≡ replicate n no-role
        → ((k : ℕ) → list.check s ≡ list.Answer.passed k → k ≤ n → (roles : List ℕ) → Assignment prefix s roles → ⊥)
        → TaggedAssignment prefix s n (reads a) (buffer n a)
    refusing a = assigns_none one_each (obeys_unique prefix)

    by_reading : (k : ℕ) → list.check s ≡ list.Answer.passed k → k ≤ n → (a : Answer) → tagged prefix stream ≡ a
        → AllTold prefix stream a → TaggedAssignment prefix s n (reads a) (buffer n a)
    by_reading k e l none i t =
        refusing none refl refl (λ j f g roles o. never_none (sym (obeys_complete prefix o).1 ∙ i))
    by_reading k e l (read es rs) i (told.AllTold.reads qs a) =
        assigns_one one_each (obeys_unique prefix) k rs e l a.obeys refl refl
    by_reading k e l (refused m p) i t =
        refusing (refused m p) refl refl (λ j f g roles o. never (sym (obeys_complete prefix o).1 ∙ i))

    -- ## The frame: the list check, the role buffer, then the reading

    module _ (P : Answer → Type 0)
        (checked : (m p : ℕ) → list.check s ≡ list.Answer.refused m p → P (refused m p))
        (lacking : (k : ℕ) → list.check s ≡ list.Answer.passed k → n < k → P (refused 8 list.END))
        (made : (k : ℕ) → list.check s ≡ list.Answer.passed k → k ≤ n → P (tagged prefix stream)) where
      by-room : (k : ℕ) → list.check s ≡ list.Answer.passed k → (b : Bool) → ltb n k ≡ b
          → P (cond b (refused 8 list.END) (tagged prefix stream))
      by-room k e true h = lacking k e (ltb-true n k h)
      by-room k e false h = made k e (ltb-false n k h)

      by-check : (a : list.Answer) → list.check s ≡ a → P (framed prefix s n a)
      by-check (list.Answer.refused m p) e = checked m p e
      by-check (list.Answer.passed k) e = by-room k e (ltb n k) refl

      pub answer-cases : P (answer prefix s n)
      unfolding answer
      answer-cases = by-check (list.check s) refl

    -- the whole answer and the whole buffer, as they are defined
    pub promise : TaggedAssignment prefix s n (reads (answer prefix s n)) (buffer n (answer prefix s n))
    promise =
        answer-cases (λ (a : Answer). TaggedAssignment prefix s n (reads a) (buffer n a))
        (λ m p e. refusing (refused m p) refl refl
        (λ j f i roles o. let q = sym f ∙ e in let z : ◌≡◌ {A = ℕ} 0 1 = cc in omega arith))
        (λ k e l. refusing (refused 8 list.END) refl refl
        (λ j f i roles o. let q : j ≡ k = cc (sym f ∙ e) in omega arith))
        (λ k e l. by_reading k e l (tagged prefix stream) refl (tagged_told prefix stream))

    -- the same, of a Bool and bytes that are equal to these
    pub promise_of : (does : Bool) (after : List ℕ) → does ≡ reads (answer prefix s n) →
        after ≡ buffer n (answer prefix s n) → TaggedAssignment prefix s n does after
    promise_of does after e f = rw (e, f) promise

    -- ## Refusals

    check-number : (m p : ℕ) → list.check s ≡ list.Answer.refused m p → OneRefusal tagged_number s m p
    check-number m p e =
        let o = check-refusal s m p e in
        let h = and_parts (leb 1 m) (leb m 7) o.one in
        let low : (leb 1 m && leb m 8) ≡ true = and_both _ _ h.0 (le-leb m 8 (omega (arith, leb-true m 7 h.1))) in
        record { one = ap (λ (t : Bool). t || own_number_lem m) low; stands = o.stands }

    own_number : (k : ℕ) {m p : ℕ} → list.check s ≡ list.Answer.passed k → AllTold prefix stream (refused m p)
        → OneRefusal tagged_number s m p
    own_number k {m} {p} e (told.AllTold.refuses one place) =
        let b = bounds s e in
        let row : p < size stream → RowOf s p =
        λ l. record {
          begins = omega (arith, (passed_list s k e).size, b.begun, l);
          low = omega (arith, (passed_list s k e).size, b.rows, l);
        } in
        record { one = or_second (between 1 8 m) one; stands = ⊎_elim inl (λ l. inr (row l)) place }

    pub answer-refusal : (m p : ℕ) → answer prefix s n ≡ refused m p → OneRefusal tagged_number s m p
    answer-refusal m p =
        answer-cases (λ (a : Answer). a ≡ refused m p → OneRefusal tagged_number s m p)
        (λ o q e i. let x : o ≡ m = cc in let y : q ≡ p = cc in
        subst (λ (v : ℕ). OneRefusal tagged_number s v p) x
        (subst (OneRefusal tagged_number s o) y (check-number o q e)))
        (λ k e l i. let x : 8 ≡ m = cc in let y : list.END ≡ p = cc in
        subst (λ (v : ℕ). OneRefusal tagged_number s v p) x
        (subst (OneRefusal tagged_number s 8) y (record { one = refl; stands = inl refl })))
        (λ k e l i. own_number k e (subst (AllTold prefix stream) i (tagged_told prefix stream)))

    -- with a role byte for each row that a list may have, 8 is not given
    pub never_short : 4096 ≤ n → (p : ℕ) → answer prefix s n ≡ refused 8 p → ⊥
    never_short room p =
        answer-cases (λ (a : Answer). a ≡ refused 8 p → ⊥)
        (λ m q e i. let x : m ≡ 8 = cc in
        false≢true (sym (ap (between 1 7) x) ∙ (check-refusal s m q e).one))
        (λ k e l i. omega (arith, (bounds s e).rows))
        (λ k e l i. own (subst (AllTold prefix stream) i (tagged_told prefix stream)))
      where
        own : AllTold prefix stream (refused 8 p) → ⊥
        own (told.AllTold.refuses one place) = false≢true one

    -- what is read is read of a list that passed
    pub read_passed : (es : List Entry) (rs : List ℕ) → answer prefix s n ≡ read es rs
        → (k : ℕ) × (list.check s ≡ list.Answer.passed k) × (tagged prefix stream ≡ read es rs)
    read_passed es rs =
        answer-cases (λ (a : Answer). a ≡ read es rs
        → (k : ℕ) × (list.check s ≡ list.Answer.passed k) × (tagged prefix stream ≡ read es rs))
        (λ m q e i. absurd (never (sym i))) (λ k e l i. absurd (never (sym i))) (λ k e l i. (k, e, i))
