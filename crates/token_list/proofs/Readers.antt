-- Laws on the rows as they stand in a list, from an offset on, and on the reader's steps.
use Rattle.std.specs.Prelude.{Option, Some, None}
use mathlib.Core.Path.{◌≡◌, refl, ap, ◌∙◌, sym}
use mathlib.Core.List.{List, [], ◌∷◌}
use Rattle.std.proofs.Math.Nat.{min-eq_left, min-eq_right}
use Rattle.std.proofs.lemmas.Bool.{cases_lt}
use mathlib.Core.Logic.{◌⊎◌, inl, inr}
use native.Mathlib.Omega.{arith}
use Prim.Native.Nat.{ℕ, min, ◌+◌, ◌≤◌, ◌<◌}
use native.Mathlib.Omega.{arith}
use lib.ListN.{length, get_or, take, drop, length-drop, drop_of_length-le}
use lib.Seq.{slice, length-slice, take-length, drop-drop, drop-length}
use Rattle.token_list.specs.Layout.{first_row}
use Rattle.token_list.specs.Row.{Lines, tail, lines}
use Rattle.token_list.specs.Contract.{LineEnd, start_of}
use Rattle.token_list.specs.Reader.{row_bytes, bytes_from, AtRow, shown_of, onward, shown_bytes, Shows, GoesOn}
use Rattle.token_list.specs.declared.check.Cursor.{Cursor}
use Rattle.token_list.proofs.Texts.{drop_next}

module _ (s : List ℕ) (i : ℕ) where
  -- ## What stands at an offset: nothing, a line, or bytes without an LF

  lines_none : length s ≤ i → lines (drop i s) ≡ tail []
  lines_none h = ap lines (drop_of_length-le s {i = i} h)

  lines_last : (e : ℕ) → i < length s → length s ≤ e → LineEnd s i e →
      lines (drop i s) ≡ tail (get_or s i 0 ∷ drop (i + 1) s)
  lines_last e h k l = l.none k ∙ ap tail (drop_next s i h)

  -- ## What is shown

  -- what is shown there is row n, where row n starts there
  shows : (r : Option (ℕ × ℕ)) → r ≡ shown_of i (lines (drop i s))
      → shown_bytes s r ≡ take 1 (bytes_from s i) → Shows s i r
  shows r e b =
      record { answer = e; bytes = b; row = λ n h. b ∙ ap (take 1) h.rows }

  pub shows_none : length s ≤ i → Shows s i None
  shows_none h =
      let e = lines_none h in
      shows None (sym (ap (shown_of i) e)) (sym (ap (λ (ls : Lines). take 1 (row_bytes ls)) e))

  pub shows_last : (e : ℕ) → i < length s → length s ≤ e → LineEnd s i e → Shows s i (Some (i, length s))
  shows_last e h k l =
      let here = lines_last e h k l in
      let bytes = drop_next s i h in
      let size : length s ≡ i + length (get_or s i 0 ∷ drop (i + 1) s) =
      omega (arith, sym (ap length bytes) ∙ length-drop i s) in
      shows (Some (i, length s)) (ap (λ (e : ℕ). Some (i, e)) size ∙ sym (ap (shown_of i) here))
      (ap (λ (t : List ℕ). drop i t ∷ []) (take-length s) ∙ ap (λ (t : List ℕ). t ∷ []) bytes
      ∙ sym (ap (λ (ls : Lines). take 1 (row_bytes ls)) here))

  pub shows_line : (e : ℕ) → e < length s → LineEnd s i e → Shows s i (Some (i, e))
  shows_line e h l =
      let here = l.found h in
      let size : e ≡ i + length (slice i e s) = omega (arith, length-slice i e s (omega arith), l.start) in
      shows (Some (i, e)) (ap (λ (e : ℕ). Some (i, e)) size ∙ sym (ap (shown_of i) here))
      (sym (ap (λ (ls : Lines). take 1 (row_bytes ls)) here))

  -- up to the next LF or the end
  pub shows_to : (e : ℕ) → i < length s → LineEnd s i e → Shows s i (Some (i, min e (length s)))
  shows_to e h l = to (cases_lt e (length s))
    where
      to : (e < length s) ⊎ (length s ≤ e) → Shows s i (Some (i, min e (length s)))
      to (inl k) = rw (min-eq_left {n = e} {m = length s} (omega arith)) (shows_line e k l)
      to (inr k) = rw (min-eq_right k) (shows_last e h k l)

-- ## Where the reader goes on

module _ (s : List ℕ) (c : Cursor) where
  goes_on : (d : Cursor) → d ≡ onward c (lines (drop c.at s)) → bytes_from s d.at ≡ drop 1 (bytes_from s c.at)
      → d.row ≡ c.row + 1 → c.at < d.at → GoesOn s c d
  goes_on d e rest row past =
      record {
        answer = e;
        rest = rest;
        row = λ h. record {
          counted = omega (arith, h.counted);
          rows = rest ∙ ap (drop 1) h.rows ∙ drop-drop 1 c.row (bytes_from s (first_row s))
              ∙ ap (λ (n : ℕ). drop n (bytes_from s (first_row s))) (sym row);
        };
      }

  pub stays : length s ≤ c.at → GoesOn s c c
  stays h =
      let e = lines_none s c.at h in
      record {
        answer = sym (ap (onward c) e);
        rest = ap row_bytes e ∙ sym (ap (λ (ls : Lines). drop 1 (row_bytes ls)) e);
        row = λ at. at;
      }

  pub on_last : (e : ℕ) → c.at < length s → length s ≤ e → LineEnd s c.at e →
      GoesOn s c (record { at = length s; row = c.row + 1 })
  on_last e h k l =
      let here = lines_last s c.at e h k l in
      let bytes = drop_next s c.at h in
      let size : length s ≡ c.at + length (get_or s c.at 0 ∷ drop (c.at + 1) s) =
      omega (arith, sym (ap length bytes) ∙ length-drop c.at s) in
      goes_on (record { at = length s; row = c.row + 1 })
      (ap (λ (n : ℕ). record { at = n; row = c.row + 1 }) size ∙ sym (ap (onward c) here))
      (ap (λ (t : List ℕ). row_bytes (lines t)) (drop-length s)
      ∙ sym (ap (λ (ls : Lines). drop 1 (row_bytes ls)) here))
      refl h

  pub on_line : (e : ℕ) → e < length s → LineEnd s c.at e → GoesOn s c (record { at = e + 1; row = c.row + 1 })
  on_line e h l =
      let here = l.found h in
      let size : e + 1 ≡ c.at + length (slice c.at e s) + 1 =
      omega (arith, length-slice c.at e s (omega arith), l.start) in
      goes_on (record { at = e + 1; row = c.row + 1 })
      (ap (λ (n : ℕ). record { at = n; row = c.row + 1 }) size ∙ sym (ap (onward c) here))
      (sym (ap (λ (ls : Lines). drop 1 (row_bytes ls)) here))
      refl (omega (arith, l.start))

-- a reader of a list at its first row
pub at_first : (s : List ℕ) → AtRow s (start_of s)
at_first s = record { counted = omega arith; rows = refl }
