-- Laws on the lines of a list, from an offset on.
use mathlib.Core.Path.{◌≡◌, refl, ap, ◌∙◌, sym}
use mathlib.Core.Bool.{Bool, true, false, false≢true}
use mathlib.Core.List.{List, [], ◌∷◌, ◌++◌, append_assoc, append-nil}
use Prim.Native.Nat.{ℕ, ◌+◌, ◌≤◌, ◌<◌}
use native.Mathlib.Omega.{arith}
use borrow.Author.Tests.{eq-eqb, ne_eqb, eqb-true}
use lib.Dec.{eqb}
use lib.ListN.{length, get_or, drop, drop_of_length-le}
use lib.Seq.{slice, slice_empty, take_all}
use Rattle.token_list.specs.Text.{LF, name_part, printable}
use Rattle.token_list.specs.Row.{Lines, tail, line, lines, front, byte}
use Rattle.token_list.specs.Contract.{in_text}
use Rattle.token_list.proofs.Texts.{drop_next, slice-more}

-- bytes in front of the first line
abbrev pub prepend : List ℕ → Lines → Lines
prepend l (tail t) = tail (l ++ t)
prepend l (line m ls) = line (l ++ m) ls

prepend_none : (ls : Lines) → prepend [] ls ≡ ls
prepend_none (tail t) = refl
prepend_none (line m ls) = refl

prepend_front : (l : List ℕ) (b : ℕ) (ls : Lines) → prepend l (front b ls) ≡ prepend (l ++ b ∷ []) ls
prepend_front l b (tail t) = simp append_assoc
prepend_front l b (line m ls) = simp append_assoc

-- the line that starts at i, one byte at a time
pub lines-byte : (s : List ℕ) (i : ℕ) → i < length s → (get_or s i 0 ≡ LF → ⊥) →
    lines (drop i s) ≡ front (get_or s i 0) (lines (drop (i + 1) s))
lines-byte s i h q = ap lines (drop_next s i h) ∙ simp (ne_eqb _ _ q)

pub lines_end : (s : List ℕ) (i : ℕ) → i < length s → get_or s i 0 ≡ LF →
    lines (drop i s) ≡ line [] (lines (drop (i + 1) s))
lines_end s i h q = ap lines (drop_next s i h) ∙ simp (eq-eqb _ _ q)

-- A scan for the LF: at its start, while none was met, and at its end.
module _ (s : List ℕ) (from : ℕ) where
  pub record Scanned (i : ℕ) : Type 0 where
    pub start : from ≤ i
    pub same : lines (drop from s) ≡ prepend (slice from i s) (lines (drop i s))

  pub scan_start : Scanned from
  scan_start = record { start = omega arith; same = rw slice_empty (sym (prepend_none (lines (drop from s)))) }

  pub scan_more : (i : ℕ) → i < length s → (get_or s i 0 ≡ LF → ⊥) → Scanned i → Scanned (i + 1)
  scan_more i h q sc =
      record {
        start = omega arith;
        same = sc.same ∙ rw (lines-byte s i h q, prepend_front, slice-more s from i sc.start h);
      }

  pub scan_found : (i : ℕ) → i < length s → get_or s i 0 ≡ LF → Scanned i
      → lines (drop from s) ≡ line (slice from i s) (lines (drop (i + 1) s))
  scan_found i h q sc = sc.same ∙ rw (lines_end s i h q, append-nil)

  pub scan_none : (i : ℕ) → length s ≤ i → Scanned i → lines (drop from s) ≡ tail (drop from s)
  scan_none i h sc = sc.same ∙ rw (drop_of_length-le s {i = i} h, append-nil, take_all i s h)

-- no text has an LF
pub in_text_no_lf : (names : Bool) (b : ℕ) → in_text names b ≡ true → b ≡ LF → ⊥
in_text_no_lf true b e q = false≢true (sym (ap name_part q) ∙ e)
in_text_no_lf false b e q = false≢true (sym (ap printable q) ∙ e)

-- ## Lines as bytes again

abbrev pub joined : Lines → List ℕ
joined (tail t) = t
joined (line l ls) = l ++ LF ∷ joined ls

joined_front : (b : ℕ) (ls : Lines) → joined (front b ls) ≡ b ∷ joined ls
joined_front b (tail t) = refl
joined_front b (line l ls) = refl

joined_byte : (t : Bool) (b : ℕ) (ls : Lines) → eqb b LF ≡ t → joined (byte t b ls) ≡ b ∷ joined ls
joined_byte true b ls e = ap (λ (x : ℕ). x ∷ joined ls) (sym (eqb-true b LF e))
joined_byte false b ls e = joined_front b ls

pub joined_lines : (bs : List ℕ) → joined (lines bs) ≡ bs
joined_lines [] = refl
joined_lines (b ∷ bs) = joined_byte (eqb b LF) b (lines bs) refl ∙ ap (λ (t : List ℕ). b ∷ t) (joined_lines bs)
