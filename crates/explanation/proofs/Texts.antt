-- Laws on what is written of a row, and of the rows that a reader shows.
use mathlib.Core.Path.{◌≡◌, refl, ap, ◌∙◌, sym}
use mathlib.Core.Bool.{Bool, true, false}
use mathlib.Core.List.{List, [], ◌∷◌, ◌++◌}
use Prim.Native.Nat.{ℕ, suc, ◌+◌, ◌-◌, ◌/◌, ◌%◌, ◌≤◌}
use native.Mathlib.Omega.{arith}
use native.Mathlib.Decide.{dec_le}
use lib.ListN.{length, get_or, take, drop, length-take, length-drop, drop_of_length-le}
use lib.Seq.{slice}
use Rattle.std.specs.Prelude.{Option, Some, None, unwrap_or, is_some}
use Rattle.token_list.specs.Byte.{bytes}
use Rattle.token_list.specs.Text.{printable}
use Rattle.token_list.specs.Row.{Lines, tail, line, lines}
use Rattle.token_list.specs.Reader.{row_bytes, bytes_from, shown_of, Shows}
use Rattle.token_list.proofs.Texts.{drop_of_take}
use Rattle.output.specs.Writes.{Writes}
use Rattle.output.specs.declared.writer.Writer.{Writer}
use Rattle.output.proofs.Writers.{then}
use Rattle.explanation.specs.Row.{hex_digit, shown_byte, shown}
use Rattle.explanation.specs.Explanation.{role_line, role_rows, near, near_line, near_rows}

-- ## Bytes

module _ {v w : Writer} (b : ℕ) {p : Bool} (tested : p ≡ printable b) where
  pub shown_plain : p ≡ true → Writes v w (b ∷ []) → Writes v w (shown_byte b)
  unfolding shown_byte
  shown_plain e put = rw (sym tested ∙ e) put

  pub shown_hex : {t u : Writer} {x y : ℕ} → p ≡ false → x ≡ hex_digit (b / 16) → y ≡ hex_digit (b % 16) →
      Writes v t (bytes "\\x") → Writes t u (x ∷ []) → Writes u w (y ∷ []) → Writes v w (shown_byte b)
  unfolding shown_byte
  shown_hex {x = x} {y = y} e p q sign high low = rw (sym tested ∙ e) (then sign (then (rw p at high) (rw q at low)))

-- the first n of some bytes are the first of them and the first m of the others
pub shown_next : {s t : List ℕ} {b : ℕ} (n m : ℕ) → s ≡ b ∷ t → m + 1 ≡ n →
    shown (take n s) ≡ shown_byte b ++ shown (take m t)
shown_next n m e k = let l : n ≡ suc m = omega arith in rw (e, l)

-- ## Rows, of which one is number i = n

pub roles_next : {rs qs : List ℕ} {bs cs : List (List ℕ)} {r : ℕ} {b : List ℕ} (i n m : ℕ) →
    rs ≡ r ∷ qs → bs ≡ b ∷ cs → i ≡ n → m ≡ n + 1
    → role_rows n rs bs ≡ role_line i r b ++ role_rows m qs cs
roles_next i n m e f k h = let l : m ≡ suc n = omega arith in rw (e, f, k, l)

pub roles_end : {bs : List (List ℕ)} (n : ℕ) (rs : List ℕ) → bs ≡ [] → role_rows n rs bs ≡ []
roles_end n [] e = refl
roles_end n (r ∷ rs) e = rw e

pub roles_none : (n : ℕ) (rs : List ℕ) (bs : List (List ℕ)) → length rs ≡ 0 → role_rows n rs bs ≡ []
roles_none n [] bs e = refl
roles_none n (r ∷ rs) bs e = absurd (omega arith)

module _ (p c : ℕ) where
  pub near_next : {bs cs : List (List ℕ)} {b : List ℕ} (i n m : ℕ) → true ≡ near p c i →
      bs ≡ b ∷ cs → i ≡ n → m ≡ n + 1
      → near_rows p c n bs ≡ near_line p i b ++ near_rows p c m cs
  near_next i n m h e k g = let l : m ≡ suc n = omega arith in rw (e, l, ← k, ← h)

  pub near_passed : {bs cs : List (List ℕ)} {b : List ℕ} (i n m : ℕ) → false ≡ near p c i →
      bs ≡ b ∷ cs → i ≡ n → m ≡ n + 1
      → near_rows p c n bs ≡ near_rows p c m cs
  near_passed i n m h e k g = let l : m ≡ suc n = omega arith in rw (e, l, ← k, ← h)

-- ## The rows that a reader shows

-- a row that is shown is the first of those from its offset on
pub record FirstRow (s : List ℕ) (i a e : ℕ) : Type 0 where
  pub order : a ≤ e
  pub within : e ≤ length s
  pub here : bytes_from s i ≡ take (e - a) (drop a s) ∷ drop 1 (bytes_from s i)

module _ {s : List ℕ} {i a e : ℕ} (shows : Shows s i (Some (a, e))) where
  stands : (l : List ℕ) (ls : List (List ℕ)) → bytes_from s i ≡ l ∷ ls
      → ◌≡◌ {A = Option (ℕ × ℕ)} (Some (a, e)) (Some (i, i + length l)) → i ≤ length s → FirstRow s i a e
  stands l ls f q h =
      let start : a ≡ i = ap (λ (r : Option (ℕ × ℕ)). (unwrap_or r (a, e)).0) q in
      let end : e ≡ i + length l = ap (λ (r : Option (ℕ × ℕ)). (unwrap_or r (a, e)).1) q in
      let same : slice a e s ∷ [] ≡ l ∷ [] = shows.bytes ∙ ap (take 1) f in
      let bytes : slice a e s ≡ l = ap (λ (t : List (List ℕ)). get_or t 0 []) same in
      let size : length (slice a e s) ≡ length (take e s) - a = length-drop a (take e s) in
      record {
        order = omega (arith, start, end);
        within = omega (arith, ap length bytes, size, length-take e s, start, end);
        here = f ∙ ap (λ (x : List ℕ). x ∷ ls) (sym bytes ∙ drop_of_take a e s)
            ∙ ap (λ (x : List (List ℕ)). take (e - a) (drop a s) ∷ x) (sym (ap (drop 1) f));
      }

  some_is_none : ◌≡◌ {A = Option (ℕ × ℕ)} (Some (a, e)) None → ⊥
  some_is_none q = let none : false ≡ true = sym (ap (λ (r : Option (ℕ × ℕ)). is_some r) q) in cc

  pub first_shown : FirstRow s i a e
  first_shown = go (lines (drop i s)) refl (dec_le (length s) i)
    where
      go : (ls : Lines) → lines (drop i s) ≡ ls → Dec (length s ≤ i) → FirstRow s i a e
      go ls f (yes h) = absurd (some_is_none (shows.answer
          ∙ ap (λ (t : List ℕ). shown_of i (lines t)) (drop_of_length-le s {i = i} h)))
      go (tail []) f (no h) = absurd (some_is_none (shows.answer ∙ ap (shown_of i) f))
      go (tail (b ∷ bs)) f (no h) =
          stands (b ∷ bs) [] (ap row_bytes f) (shows.answer ∙ ap (shown_of i) f) (omega arith)
      go (line l ls) f (no h) =
          stands l (row_bytes ls) (ap row_bytes f) (shows.answer ∙ ap (shown_of i) f) (omega arith)
