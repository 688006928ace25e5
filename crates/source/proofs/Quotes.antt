-- Laws on what stands in quotes, from an offset on.
use mathlib.Core.Path.{◌≡◌, refl, ap, ◌∙◌, sym}
use mathlib.Core.Bool.{Bool, not, cond, ◌&&◌}
use mathlib.Core.List.{List, [], ◌∷◌}
use Prim.Native.Nat.{ℕ, zero, suc, ◌+◌, ◌-◌, ◌*◌, ◌^◌, ◌≤◌, ◌<◌}
use native.Mathlib.Nat.{pow-suc, pow-le-pow_right}
use native.Mathlib.Numerals.{add-one}
use native.Mathlib.Omega.{arith}
use borrow.Author.Tests.{eq-eqb, ne_eqb, lt-ltb, le-ltb}
use lib.Dec.{ltb, eqb}
use lib.ListN.{length, get_or, drop}
use Rattle.token_list.specs.Byte.{code, bytes, UNDERSCORE, QUOTE}
use Rattle.token_list.specs.Text.{member, printable, digit_worth}
use Rattle.token_list.proofs.Texts.{drop_next, chosen, passed_over, and_fails}
use Rattle.token_list.proofs.Digits.{before-digits}
use Rattle.source.specs.Bytes.{BACKSLASH, DOUBLE_QUOTE}
use Rattle.source.specs.Taken.{Taken, takes, fault, after, onward}
use Rattle.source.specs.Quoted.{hex_escape, scalar, hex_digits, unicode_escape, escape, unit, closing, character}
use Rattle.source.specs.Quoted.{string}
use Rattle.source.specs.Contract.{EndsTo}
use Rattle.source.proofs.Offsets.{stands, byte-first, byte_behind, drop_behind}
use Rattle.source.proofs.Passed.{after_none, after_more}

-- ## The escape `\x`

-- a byte that is a digit stands in the text
pub digit_there : (s : List ℕ) (i : ℕ) → digit_worth (get_or s i 0) < 16 → i < length s
digit_there s i h = stands s i (λ e. omega (arith, ap digit_worth e, before-digits 0 (omega arith)))

-- what the first digit is worth less than
abbrev pub limit : Bool → ℕ
limit byte = cond byte 16 8

module _ (byte : Bool) where
  -- digits worth a and b
  pub hex_at : {a b : ℕ} (s : List ℕ) (i : ℕ) → a ≡ digit_worth (get_or s i 0) → b ≡ digit_worth (get_or s (i + 1) 0)
      → hex_escape byte (drop i s) ≡ cond (ltb a (limit byte) && ltb b 16) (takes 2) fault
  unfolding hex_escape
  hex_at s i p q = rw (p, q, byte-first s i, byte_behind s i 1)

  pub hex_none : {a : ℕ} (s : List ℕ) (i : ℕ) → a ≡ digit_worth (get_or s i 0) → limit byte ≤ a
      → hex_escape byte (drop i s) ≡ fault
  hex_none s i p h = hex_at s i p refl ∙ passed_over _ _ _ (and_fails _ _ (le-ltb _ _ h))

-- ## The digits of `\u`, where a byte stands

module _ (count v : ℕ) (s : List ℕ) (i : ℕ) (h : i < length s) where
  pub digits-close : get_or s i 0 ≡ code "}" →
      hex_digits count v (drop i s) ≡ cond (ltb 0 count && scalar v) (takes 1) fault
  digits-close e = ap (hex_digits count v) (drop_next s i h) ∙ chosen _ _ _ (eq-eqb _ _ e)

  pub digits_gap : get_or s i 0 ≡ UNDERSCORE → 0 < count →
      hex_digits count v (drop i s) ≡ after 1 (hex_digits count v (drop (i + 1) s))
  digits_gap e k = ap (hex_digits count v) (drop_next s i h) ∙ simp (e, lt-ltb 0 count k)

  pub digits_no_gap : get_or s i 0 ≡ UNDERSCORE → count ≡ 0 → hex_digits count v (drop i s) ≡ fault
  unfolding digit_worth
  digits_no_gap e k = ap (hex_digits count v) (drop_next s i h) ∙ simp (e, k)

  -- a digit worth d
  pub digits_next : {d : ℕ} → d ≡ digit_worth (get_or s i 0) → (get_or s i 0 ≡ code "}" → ⊥)
      → (get_or s i 0 ≡ UNDERSCORE → ⊥)
      → hex_digits count v (drop i s)
      ≡ cond (ltb d 16 && ltb count 6) (after 1 (hex_digits (count + 1) (v * 16 + d) (drop (i + 1) s))) fault
  digits_next p d e =
      rw p
      (ap (hex_digits count v) (drop_next s i h) ∙ passed_over _ _ _ (ne_eqb _ _ d)
      ∙ passed_over _ _ _ (and_fails _ _ (ne_eqb _ _ e)))

pub unicode_at : {b : ℕ} (s : List ℕ) (i : ℕ) → b ≡ get_or s i 0
    → unicode_escape (drop i s) ≡ cond (eqb b (code "{")) (after 1 (hex_digits 0 0 (drop (i + 1) s))) fault
unfolding unicode_escape
unicode_at s i e = rw (e, byte-first s i, drop_behind s i 1)

-- v is worth `count` digits
pub worth-bound : (count v : ℕ) → count < 6 → v < 16 ^ count → v < 1048576
worth-bound count v h k = omega (arith, pow-le-pow_right {n = 16} (omega arith) {i = count} {j = 5} (omega arith))

pub worth_next : (count v d : ℕ) → v < 16 ^ count → d < 16 → v * 16 + d < 16 ^ (count + 1)
worth_next count v d h k = let e : 16 ^ (count + 1) ≡ 16 ^ count * 16 = rw add-one (pow-suc 16 count) in omega arith

-- ## Escapes, and characters

module _ (byte : Bool) (s : List ℕ) (i : ℕ) where
  pub escape_at : {b : ℕ} → b ≡ get_or s i 0 → escape byte (drop i s)
      ≡ cond (member b (bytes "nrt\\0'\"")) (takes 1)
      (cond (eqb b (code "x")) (after 1 (hex_escape byte (drop (i + 1) s)))
      (cond (eqb b (code "u") && not byte) (after 1 (unicode_escape (drop (i + 1) s))) fault))
  unfolding escape
  escape_at e = rw (e, byte-first s i, drop_behind s i 1)

  pub unit_at : {b : ℕ} (quote : ℕ) → b ≡ get_or s i 0 → unit byte quote (drop i s)
      ≡ cond (eqb b BACKSLASH) (after 1 (escape byte (drop (i + 1) s)))
      (cond (printable b && not (eqb b quote)) (takes 1) fault)
  unfolding unit
  unit_at quote e = rw (e, byte-first s i, drop_behind s i 1)

  pub character-none : unit byte QUOTE (drop i s) ≡ fault → character byte (drop i s) ≡ fault
  unfolding character
  character-none e = ap (λ (t : Taken). onward t (λ n. closing QUOTE n (drop i s))) e

  pub character_at : {e b : ℕ} → EndsTo s i (unit byte QUOTE (drop i s)) e → b ≡ get_or s e 0
      → character byte (drop i s) ≡ cond (eqb b QUOTE) (takes (e + 1 - i)) fault
  unfolding character
  character_at {e} {b} u q =
      let n : e - i + 1 ≡ e + 1 - i = omega (arith, u.forth) in
      let m : i + (e - i) ≡ e = omega (arith, u.forth) in
      let same : get_or (drop i s) (e - i) 0 ≡ b = byte_behind s i (e - i) ∙ ap (λ (j : ℕ). get_or s j 0) m ∙ sym q in
      ap (λ (t : Taken). onward t (λ n. closing QUOTE n (drop i s))) u.taken
      ∙ (λ j. cond (eqb (same j) QUOTE) (takes (n j)) fault)

-- ## Strings

-- what is passed over is as if it were not there
string_skip : (byte : Bool) (k : ℕ) (s : List ℕ) → string byte k s ≡ after k (string byte 0 (drop k s))
string_skip byte zero s = sym (after_none _)
string_skip byte (suc k) [] = refl
string_skip byte (suc k) (b ∷ s) = after_more k (string byte 0 (drop k s)) (string_skip byte k s)

-- where a byte stands
module _ (byte : Bool) (s : List ℕ) (i : ℕ) (h : i < length s) where
  pub string_closed : get_or s i 0 ≡ DOUBLE_QUOTE → string byte 0 (drop i s) ≡ takes 1
  string_closed e = ap (string byte 0) (drop_next s i h) ∙ chosen _ _ _ (eq-eqb _ _ e)

  string-unit : (t : Taken) → (get_or s i 0 ≡ DOUBLE_QUOTE → ⊥) → unit byte DOUBLE_QUOTE (drop i s) ≡ t →
      string byte 0 (drop i s) ≡ onward t (λ n. after 1 (string byte (n - 1) (drop (i + 1) s)))
  string-unit t e q =
      let n = drop_next s i h in
      let same = ap (unit byte DOUBLE_QUOTE) (sym n) ∙ q in
      ap (string byte 0) n ∙ passed_over _ _ _ (ne_eqb _ _ e)
      ∙ ap (λ (u : Taken). onward u (λ n. after 1 (string byte (n - 1) (drop (i + 1) s)))) same

  pub string_broken : (get_or s i 0 ≡ DOUBLE_QUOTE → ⊥) → unit byte DOUBLE_QUOTE (drop i s) ≡ fault →
      string byte 0 (drop i s) ≡ fault
  string_broken e q = string-unit fault e q

  pub string_on : {e : ℕ} → (get_or s i 0 ≡ DOUBLE_QUOTE → ⊥) → EndsTo s i (unit byte DOUBLE_QUOTE (drop i s)) e →
      string byte 0 (drop i s) ≡ after (e - i) (string byte 0 (drop e s))
  string_on {e} d u =
      let k = e - i - 1 in
      let n : suc k ≡ e - i = omega (arith, u.forth) in
      let m : i + 1 + k ≡ e = omega (arith, u.forth) in
      let rest = drop_behind s (i + 1) k ∙ ap (λ (j : ℕ). drop j s) m in
      string-unit (takes (e - i)) d u.taken
      ∙ after_more k (string byte 0 (drop k (drop (i + 1) s))) (string_skip byte k (drop (i + 1) s))
      ∙ (λ j. after (n j) (string byte 0 (rest j)))
