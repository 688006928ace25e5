-- Laws on the whole answer.
use mathlib.Core.Path.{◌≡◌, refl, ap, ◌∙◌, sym, subst, subst⁻¹}
use mathlib.Core.Bool.{false, true, false≢true}
use mathlib.Core.List.{List, [], ◌++◌}
use Prim.Native.Nat.{ℕ, ◌+◌, ◌-◌, ◌≤◌, ◌<◌}
use native.Mathlib.Omega.{arith}
use borrow.Author.Tests.{lt-ltb, le-ltb}
use lib.ListN.{length, replicate, length-append, length-replicate}
use lib.Seq.{sets}
use Rattle.std.specs.Prelude.{Option, Some, None, Result, Ok, Err}
use Rattle.token_list.specs.Check as list
use Rattle.token_list.specs.Stream.{size}
use Rattle.token_list.specs.declared.check.Cursor.{Cursor}
use Rattle.token_list.specs.declared.check.Refusal.{Refusal}
use Rattle.token_list.proofs.Texts.{chosen, passed_over}
use Rattle.token_list.proofs.Passed.{passed_list}
use Rattle.parse.proofs.Buffer.{sets_append}
use Rattle.reading.specs.Role.{none as no-role}
use Rattle.tagged_reading.specs.Role as role
use Rattle.tagged_reading.specs.Role.{others}
use Rattle.tagged_reading.specs.Entry.{Entry}
use Rattle.tagged_reading.specs.Reading.{Answer, none, read, refused, adding, before, FIRST_ENTRY, tagged}
use Rattle.tagged_reading.specs.Answer as answers
use Rattle.tagged_reading.specs.Promise.{TaggedAssignment}
use Rattle.tagged_reading.proofs.Told as told
use Rattle.tagged_reading.proofs.Promise.{answer-refusal, promise_of}
use Rattle.tagged_attribute.specs.Contract.{entries_at, listed, EntriesRead, EntriesFrom, TaggedAs, Marked, Answered}
use Rattle.tagged_attribute.specs.Contract.{reads}
use Rattle.tagged_attribute.specs.declared.utils.EntriesAt.{EntriesAt}
use Rattle.tagged_attribute.proofs.Buffers.{stored}

module _ (prefix s b0 : List ℕ) where
  abbrev a : Answer
  a = answers.answer prefix s (length b0)

  -- ## What is answered, by the answer of the list check

  pub refuses : {n p : ℕ} → list.Answer.refused n p ≡ list.check s → a ≡ refused n p
  unfolding answers.answer
  refuses e = rw (← e)

  pub short : {rows : ℕ} → list.Answer.passed rows ≡ list.check s → length b0 < rows → a ≡ refused 8 list.END
  unfolding answers.answer
  short e h = rw (← e) (chosen _ _ _ (lt-ltb _ _ h))

  pub fits : {rows : ℕ} → list.Answer.passed rows ≡ list.check s → rows ≤ length b0 → a ≡ tagged prefix (listed s)
  unfolding answers.answer
  fits e h = rw (← e) (passed_over _ _ _ (le-ltb _ _ h))

  -- ## The answers without entries

  pub marked_refused : {b1 : List ℕ} {f : Refusal} → a ≡ refused f.number f.place → Marked prefix s (Err f) b0 b1
  marked_refused {f = f} e =
      record { answer = subst⁻¹ (TaggedAs s (Err f)) e (refl, refl); buffer = λ h. absurd (false≢true h) }

  pub marked_none : {b1 : List ℕ} → a ≡ none → Marked prefix s (Ok None) b0 b1
  marked_none e = record { answer = subst⁻¹ (TaggedAs s (Ok None)) e tt; buffer = λ h. absurd (false≢true h) }

  -- ## The entries and the rows around them

  module _ {rows : ℕ} (passed : list.Answer.passed rows ≡ list.check s) (room : rows ≤ length b0) {first : Cursor}
      (found : EntriesFrom s (tagged prefix (listed s)) first) where
    abbrev around : Answer → Answer
    around x = adding [] (others FIRST_ENTRY) (before found.behind x)

    pub entries_refused : {b1 : List ℕ} {f : Refusal} → entries_at s first ≡ refused f.number f.place
        → Marked prefix s (Err f) b0 b1
    entries_refused e = marked_refused (fits passed room ∙ found.same ∙ ap around e)

    -- the rows of the list are those of the entries and those around them
    all_rows : (es : List Entry) (rs : List ℕ) → entries_at s first ≡ read es rs
        → FIRST_ENTRY + length rs + found.behind ≡ rows
    all_rows es rs e =
        let n = found.behind in
        let tells : tagged prefix (listed s) ≡ read es (others 3 ++ (rs ++ others n)) = found.same ∙ ap around e in
        let counted = go (subst (told.AllTold prefix (listed s)) tells (told.tagged_told prefix (listed s))) in
        omega (
          arith,
          counted,
          length-append rs (others n),
          length-replicate n role.other,
          (passed_list s rows (sym passed)).size,
        )
      where
        go : {es : List Entry} {qs : List ℕ} → told.AllTold prefix (listed s) (read es qs) → length qs ≡ size (listed s)
        go (told.AllTold.reads qs k) = k.counted

    pub entries_marked : {b1 b2 b3 : List ℕ} {d : Cursor} {count : ℕ} → b1 ≡ sets b0 0 (others (first.row - 0))
        → EntriesRead s first d count b1 b2
        → b3 ≡ sets (sets b2 d.row (others (rows - d.row))) rows (replicate (length b2 - rows) no-role)
        → Marked prefix s (Ok (Some (record { first = first; count = count; rows = rows }))) b0 b3
    entries_marked {b1} {b2} {b3} {d} {count} front k q =
        let rs = k.rs in
        let behind = found.behind in
        let three : first.row - 0 ≡ 3 = omega (arith, found.row) in
        let opened : b1 ≡ sets b0 0 (others 3) = front ∙ ap (λ (n : ℕ). sets b0 0 (others n)) three in
        let marked : b2 ≡ sets b0 0 (others 3 ++ rs) =
        k.roles ∙ (λ j. sets (opened j) (found.row j) rs) ∙ sym (sets_append b0 0 (others 3) rs) in
        let total : length (others 3 ++ rs) + behind ≡ rows = omega (arith, all_rows k.es rs k.same) in
        let ends : d.row ≡ length (others 3 ++ rs) = omega (arith, k.row, found.row) in
        let counted : rows ≡ length (others 3 ++ (rs ++ others behind)) =
        omega (arith, total, length-append rs (others behind), length-replicate behind role.other) in
        let e : a ≡ read k.es (others 3 ++ (rs ++ others behind)) =
        fits passed room ∙ found.same ∙ ap around k.same in
        let at : EntriesAt = record { first = first; count = count; rows = rows } in
        record {
          answer = subst⁻¹ (TaggedAs s (Ok (Some at))) e
              (record {
                count = k.count;
                rows = counted;
                in_list = found.in_list;
                row = found.row;
                roles = rs;
                same = k.same;
              });
          buffer = λ _. q ∙ stored b0 b2 (others 3 ++ rs) role.other no-role d.row rows behind marked ends total room
              ∙ ap (answers.buffer (length b0)) (sym e);
        }

-- ## The whole buffer

module _ (s : List ℕ) where
  buffer_of : (r : Result (Option EntriesAt) Refusal) (n : ℕ) (x : Answer) → TaggedAs s r x → reads r ≡ false
      → answers.buffer n x ≡ replicate n no-role
  buffer_of r n none h e = refl
  buffer_of (Ok None) n (read es rs) h e = absurd h
  buffer_of (Ok (Some _)) n (read es rs) h e = absurd (false≢true (sym e))
  buffer_of (Err _) n (read es rs) h e = absurd h
  buffer_of r n (refused m p) h e = refl

  reads_by : (r : Result (Option EntriesAt) Refusal) (x : Answer) → TaggedAs s r x → reads r ≡ answers.reads x
  reads_by (Ok None) none h = refl
  reads_by (Ok None) (read es rs) h = absurd h
  reads_by (Ok None) (refused n p) h = absurd h
  reads_by (Ok (Some _)) none h = absurd h
  reads_by (Ok (Some _)) (read es rs) h = refl
  reads_by (Ok (Some _)) (refused n p) h = absurd h
  reads_by (Err _) none h = absurd h
  reads_by (Err _) (read es rs) h = absurd h
  reads_by (Err _) (refused n p) h = refl

module _ {prefix s b0 b1 : List ℕ} where
  pub answered_cleared : {r : Result (Option EntriesAt) Refusal} {b2 : List ℕ} → Marked prefix s r b0 b1
      → reads r ≡ false → b2 ≡ replicate (length b0) no-role → Answered prefix s r b0 b2
  answered_cleared {r} m e q =
      record {
        answer = m.answer;
        refusal = answer-refusal prefix s (length b0);
        buffer = q ∙ sym (buffer_of s r (length b0) _ m.answer e);
      }

  pub answered_read : {r : Result (Option EntriesAt) Refusal} → Marked prefix s r b0 b1 → reads r ≡ true
      → Answered prefix s r b0 b1
  answered_read m e = record { answer = m.answer; refusal = answer-refusal prefix s (length b0); buffer = m.buffer e }

  -- the second clause of the contract, from the first
  pub assigned : {r : Result (Option EntriesAt) Refusal} → Answered prefix s r b0 b1
      → TaggedAssignment prefix s (length b0) (reads r) b1
  assigned {r} h = promise_of prefix s (length b0) (reads r) b1 (reads_by s r _ h.answer) h.buffer
