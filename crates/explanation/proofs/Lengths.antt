-- How long an explanation can be.
use mathlib.Core.Path.{◌≡◌, refl, ap}
use mathlib.Core.Bool.{Bool, true, false, cond, ◌&&◌}
use mathlib.Core.List.{List, [], ◌∷◌}
use Prim.Native.Nat.{ℕ, zero, suc, ◌+◌, ◌-◌, ◌*◌, ◌^◌, ◌≤◌, ◌<◌, min}
use native.Mathlib.Omega.{arith}
use native.Mathlib.Decide.{dec_le}
use borrow.Author.Tests.{eq-eqb, ne_eqb, le-leb, lt-leb, leb-true, eqb-true, eqb-false}
use lib.Dec.{leb, ltb, eqb}
use lib.ListN.{length, get_or, take, drop, length-append, length-take, length-drop}
use Rattle.token_list.specs.Layout.{marked, first_row}
use Rattle.token_list.specs.Byte.{LF}
use Rattle.token_list.specs.Text.{printable}
use Rattle.token_list.specs.Check as list
use Rattle.token_list.specs.Row.{Lines, tail, line, lines, byte}
use Rattle.token_list.specs.Reader.{row_bytes, bytes_from}
use Rattle.token_list.proofs.Texts.{and_parts}
use Rattle.token_list.proofs.Bounds.{bounds}
use Rattle.reading.specs.Declaration.{Declaration}
use Rattle.reading.specs.Answer.{declared, refused, answer}
use Rattle.report.proofs.Lines.{few_roles, by_answer}
use Rattle.output.specs.Text.{decimal, refusal_text}
use Rattle.output.proofs.Texts.{decimal-within, decimal_few}
use Rattle.explanation.specs.Row.{shown_byte, shown, blank, column}
use Rattle.explanation.specs.Words.{ROLES, MEANINGS, role_words, meaning}
use Rattle.explanation.specs.Explanation.{ROW_BYTES, names_line, role_line, role_rows, near, sign, near_line}
use Rattle.explanation.specs.Explanation.{near_rows, explanation, MOST}

-- ## A row's parts

either_few : (p : Bool) (x y : List ℕ) (k : ℕ) → length x ≤ k → length y ≤ k → length (cond p x y) ≤ k
either_few true x y k h g = h
either_few false x y k h g = g

byte_few : (b : ℕ) → length (shown_byte b) ≤ 4
unfolding shown_byte
byte_few b = either_few (printable b) _ _ 4 (omega arith) (omega arith)

shown_few : (bs : List ℕ) → length (shown bs) ≤ 4 * length bs
shown_few [] = omega arith
shown_few (b ∷ bs) = simp length-append (omega (arith, byte_few b, shown_few bs))

blank_few : (n k : ℕ) → length (blank n k) ≤ 1
unfolding blank
blank_few n k = either_few (ltb n k) _ _ 1 (omega arith) (omega arith)

column_few : (n k : ℕ) → length (decimal n) ≤ k → length (column n) ≤ 3 + k
unfolding column
column_few n k h = simp length-append (omega (arith, blank_few n 1000, blank_few n 100, blank_few n 10))

-- ## Words

abbrev short : ℕ → List (List ℕ) → Bool
short w [] = true
short w (l ∷ ls) = leb (length l) w && short w ls

word_few : (w k : ℕ) (ls : List (List ℕ)) → short w ls ≡ true → length (get_or ls k []) ≤ w
word_few w k [] h = omega arith
word_few w zero (l ∷ ls) h = leb-true _ _ (and_parts (leb (length l) w) (short w ls) h).0
word_few w (suc k) (l ∷ ls) h = word_few w k ls (and_parts (leb (length l) w) (short w ls) h).1

role_few : (r : ℕ) → length (role_words r) ≤ 29
unfolding role_words
role_few r = word_few 29 r ROLES refl

pub meaning_few : (n : ℕ) → length (meaning n) ≤ 160
unfolding meaning
meaning_few n = word_few 160 n MEANINGS refl

-- ## Rows with their roles

abbrev total : List (List ℕ) → ℕ
total [] = 0
total (b ∷ bs) = length b + total bs

line_few : (n r : ℕ) (b : List ℕ) → n < 10000 → length (role_line n r b) ≤ 39 + 4 * length b
unfolding role_line
line_few n r b h =
    let t = take ROW_BYTES b in
    let number = column_few n 4 (decimal-within 3 n h) in
    let text : length t ≤ length b = omega (arith, length-take ROW_BYTES b) in
    simp length-append (omega (arith, number, role_few r, shown_few t, text))

rows_few : (n : ℕ) (rs : List ℕ) (bs : List (List ℕ)) → n + length rs ≤ 10000 →
    length (role_rows n rs bs) ≤ 39 * length rs + 4 * total bs
rows_few n [] bs h = omega arith
rows_few n (r ∷ rs) [] h = omega arith
rows_few n (r ∷ rs) (b ∷ bs) h =
    simp length-append (omega (arith, line_few n r b (omega arith), rows_few (suc n) rs bs (omega arith)))

-- the rows have no more bytes than the list, and are no more
record Few (t : List ℕ) (ls : Lines) : Type 0 where
  pub bytes : total (row_bytes ls) ≤ length t
  pub rows : length (row_bytes ls) ≤ length t

few : (t : List ℕ) → Few t (lines t)
few [] = record { bytes = omega arith; rows = omega arith }
few (b ∷ t) = go (eqb b LF) (lines t) (few t)
  where
    go : (lf : Bool) (ls : Lines) → Few t ls → Few (b ∷ t) (byte lf b ls)
    go true ls f = record { bytes = omega (arith, f.bytes); rows = omega (arith, f.rows) }
    go false (tail []) f = record { bytes = omega arith; rows = omega arith }
    go false (tail (c ∷ cs)) f = record { bytes = omega (arith, f.bytes); rows = omega arith }
    go false (line l ls) f = record { bytes = omega (arith, f.bytes); rows = omega (arith, f.rows) }

pub rows-within : (s : List ℕ) (i : ℕ) → length (bytes_from s i) ≤ length s
rows-within s i = omega (arith, (few (drop i s)).rows, length-drop i s)

-- ## Rows near a place

sign_few : (p n : ℕ) → length (sign p n) ≤ 2
unfolding sign
sign_few p n = either_few (eqb n p) _ _ 2 (omega arith) (omega arith)

near-line_few : (p n : ℕ) (b : List ℕ) → n < 2 ^ 64 → length (near_line p n b) ≤ 1048
unfolding near_line
near-line_few p n b h =
    let t = take 255 b in
    let number = column_few n 20 (decimal_few n h) in
    let text : length t ≤ 255 = omega (arith, length-take 255 b) in
    simp length-append (omega (arith, sign_few p n, number, shown_few t, text))

-- one row more of the five
one_of_five : (p n : ℕ) → p ≤ n + 2 → n ≤ p + 2 → 1048 + 1048 * min 5 (p + 3 - suc n) ≤ 1048 * min 5 (p + 3 - n)
one_of_five p n h k = omega arith

fewer_of_five : (p n : ℕ) → 1048 * min 5 (p + 3 - suc n) ≤ 1048 * min 5 (p + 3 - n)
fewer_of_five p n = omega arith

rest_few : (a b y z : ℕ) → a ≡ 0 → b ≤ y → y ≤ z → a + b ≤ z
rest_few a b y z h k l = omega arith

both_few : (a b y z : ℕ) → a ≤ 1048 → b ≤ y → 1048 + y ≤ z → a + b ≤ z
both_few a b y z h k l = omega arith

module _ (p c : ℕ) (small : c < 2 ^ 64) where
  near-any : (n : ℕ) (b : List ℕ) → n < c → length (cond (near p c n) (near_line p n b) []) ≤ 1048
  near-any n b h = either_few (near p c n) _ _ 1048 (near-line_few p n b (omega arith)) (omega arith)

  near_no : (n : ℕ) (b : List ℕ) → near p c n ≡ false → length (cond (near p c n) (near_line p n b) []) ≡ 0
  near_no n b e = ap (λ (x : Bool). length (cond x (near_line p n b) [])) e

  -- the last three
  last_few : p ≡ list.END → (n : ℕ) (bs : List (List ℕ)) → n + length bs ≡ c →
      length (near_rows p c n bs) ≤ 1048 * min (length bs) 3
  last_few e n [] h = omega arith
  last_few e n (b ∷ bs) h = go (dec_le (c - n) 3) (last_few e (suc n) bs (omega arith))
    where
      go : Dec (c - n ≤ 3) → length (near_rows p c (suc n) bs) ≤ 1048 * min (length bs) 3 →
          length (near_rows p c n (b ∷ bs)) ≤ 1048 * min (length (b ∷ bs)) 3
      go (yes k) more = simp length-append (omega (arith, near-any n b (omega arith)))
      go (no k) more =
          let none = near_no n b (rw (eq-eqb p list.END e) (lt-leb (c - n) 3 (omega arith))) in
          simp length-append (omega (arith, none))

  -- the five around a row
  around_few : (p ≡ list.END → ⊥) → (n : ℕ) (bs : List (List ℕ)) → n + length bs ≡ c →
      length (near_rows p c n bs) ≤ 1048 * min 5 (p + 3 - n)
  around_few e n [] h = omega arith
  around_few e n (b ∷ bs) h = go (dec_le (p - n) 2) (dec_le (n - p) 2) (around_few e (suc n) bs (omega arith))
    where
      go : Dec (p - n ≤ 2) → Dec (n - p ≤ 2) → length (near_rows p c (suc n) bs) ≤ 1048 * min 5 (p + 3 - suc n) →
          length (near_rows p c n (b ∷ bs)) ≤ 1048 * min 5 (p + 3 - n)
      go (yes k) (yes l) more =
          let here = near-any n b (omega arith) in
          simp length-append (both_few _ _ _ _ here more (one_of_five p n (omega arith) (omega arith)))
      go (no k) l more =
          let none = near_no n b (rw (ne_eqb p list.END e, lt-leb (p - n) 2 (omega arith))) in
          simp length-append (rest_few _ _ _ _ none more (fewer_of_five p n))
      go (yes k) (no l) more =
          let none = near_no n b (rw (ne_eqb p list.END e, le-leb (p - n) 2 k, lt-leb (n - p) 2 (omega arith))) in
          simp length-append (rest_few _ _ _ _ none more (fewer_of_five p n))

  near_few : (bs : List (List ℕ)) → length bs ≡ c → length (near_rows p c 0 bs) ≤ 5240
  near_few bs h = go (eqb p list.END) refl
    where
      go : (b : Bool) → eqb p list.END ≡ b → length (near_rows p c 0 bs) ≤ 5240
      go true e = omega (arith, last_few (eqb-true p list.END e) 0 bs (omega arith))
      go false e = omega (arith, around_few (eqb-false p list.END e) 0 bs (omega arith))

-- ## An explanation

pub near-text_few : (s : List ℕ) (p : ℕ) → length s < 2 ^ 64 →
    length (near_rows p (length (bytes_from s (first_row s))) 0 (bytes_from s (first_row s))) ≤ 5240
near-text_few s p h =
    let rows = (few (drop (first_row s) s)).rows in
    near_few p (length (bytes_from s (first_row s))) (omega (arith, rows, length-drop (first_row s) s)) (bytes_from s
    (first_row s)) refl

names_few : (m : Bool) → length (names_line m) ≤ 64
names_few true = omega arith
names_few false = omega arith

pub explained_few : (s : List ℕ) (n : ℕ) (d : Declaration) (rs : List ℕ) → answer s n ≡ declared d rs →
    length (explanation s (declared d rs)) ≤ MOST
explained_few s n d rs e =
    let count = few_roles s n d rs e in
    let size = by_answer s n d rs (λ (qs : List ℕ). length s ≤ 65536) (λ k c f qs us i. (bounds s c).bytes) e in
    let rows = rows_few 0 rs (bytes_from s (first_row s)) (omega (arith, count)) in
    let bytes = (few (drop (first_row s) s)).bytes in
    simp length-append (omega (arith, names_few (marked s), count, size, rows, bytes, length-drop (first_row s) s))

pub refused_few : (s : List ℕ) (n p : ℕ) → length (refusal_text n p) ≤ 64 → length s < 2 ^ 64 →
    length (explanation s (refused n p)) ≤ MOST
refused_few s n p h k = simp length-append (omega (arith, meaning_few n, near-text_few s p k))
