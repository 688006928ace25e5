-- Quotes: what the definitions take is what the productions say.
use mathlib.Core.Path.{◌≡◌, refl, ap, ◌∙◌, sym, subst}
use mathlib.Core.Bool.{Bool, true, false, cond, not, ◌&&◌, false≢true}
use mathlib.Core.List.{List, [], ◌∷◌, ◌++◌, append_assoc}
use Prim.Native.Nat.{ℕ, zero, suc, ◌+◌, ◌-◌, ◌*◌, ◌≤◌, ◌<◌}
use native.Mathlib.Omega.{arith}
use lib.Dec.{ltb, eqb}
use borrow.Author.Tests.{eqb-true, ltb-true, lt-ltb, not-true}
use lib.ListN.{length, get_or, drop, length-append}
use Rattle.token_list.specs.Byte.{code, bytes, UNDERSCORE, QUOTE}
use Rattle.token_list.specs.Text.{member, printable, digit_worth}
use Rattle.token_list.proofs.Texts.{and_parts, and_both, and_fails, chosen, passed_over}
use Rattle.source.specs.Bytes.{BACKSLASH, DOUBLE_QUOTE, hex_digit}
use Rattle.source.specs.Taken.{Taken, takes, fault, after, onward}
use Rattle.source.specs.Quoted.{hex_escape, scalar, hex_digits, unicode_escape, escape, unit, closing, character}
use Rattle.source.specs.Quoted.{string}
use Rattle.source.specs.Division.{HexDigits, hex_worth, Escape, Unit, Body}
use Rattle.source.proofs.DivisionCuts.{Cut, cut, none, choice, before, at_byte, after_takes, apart}
use Rattle.source.proofs.DivisionCuts.{first_behind, cut_as, after_none, after-after}

-- ## The digits of `\u{..}`

record Digits (count v : ℕ) (p : List ℕ) : Type 0 where
  digits : List ℕ
  form : HexDigits digits p
  few : count + length digits ≤ 6
  worth : scalar (hex_worth v digits) ≡ true

digits_sound : (s : List ℕ) (count v : ℕ) → 0 < count → count ≤ 6
    → Cut (λ p r. Digits count v p) s (hex_digits count v s)
digits_sound [] count v some few = none
digits_sound (b ∷ s) count v some few =
    choice (eqb b (code "}"))
    (λ e. choice (ltb 0 count && scalar v)
    (λ f. at_byte (code "}") e (cut (bytes "}") s (record {
      digits = [];
      form = HexDigits.close;
      few = omega (arith, few);
      worth = (and_parts (ltb 0 count) _ f).1;
    }) refl)) (λ f. none))
    (λ e. choice (eqb b UNDERSCORE && ltb 0 count)
    (λ f. at_byte UNDERSCORE (and_parts (eqb b UNDERSCORE) _ f).0
    (before (UNDERSCORE ∷ []) 1 refl (digits_sound s count v some few) (λ p r h. record {
      digits = h.digits;
      form = HexDigits.line h.form;
      few = h.few;
      worth = h.worth;
    })))
    (λ f. choice (hex_digit b && ltb count 6)
    (λ g. let more = and_parts (hex_digit b) _ g in
    let lower = ltb-true count 6 more.1 in
    before (b ∷ []) 1 refl (digits_sound s (count + 1) (v * 16 + digit_worth b) (omega arith) (omega (arith, lower)))
    (λ p r h. record {
      digits = b ∷ h.digits;
      form = HexDigits.more more.0 h.form;
      few = omega (arith, h.few);
      worth = h.worth;
    })) (λ g. none)))

digits_complete : {ds p : List ℕ} → HexDigits ds p → (r : List ℕ) (count v : ℕ) → 0 < count → count + length ds ≤ 6
    → scalar (hex_worth v ds) ≡ true → hex_digits count v (p ++ r) ≡ takes (length p)
unfolding digit_worth
digits_complete HexDigits.close r count v some few worth = chosen _ _ _ (and_both _ _ (lt-ltb 0 count some) worth)
digits_complete (HexDigits.line {p = p} h) r count v some few worth =
    chosen _ _ _ (lt-ltb 0 count some)
    ∙ after_takes 1 (length p) (suc (length p)) (digits_complete h r count v some few worth) (omega arith)
digits_complete (HexDigits.more {d} {ds} {p} e h) r count v some few worth =
    passed_over _ _ _ (apart hex_digit d (code "}") e refl)
    ∙ passed_over _ _ _ (and_fails _ _ (apart hex_digit d UNDERSCORE e refl))
    ∙ chosen _ _ _ (and_both _ _ e (lt-ltb count 6 (omega (arith, few))))
    ∙ after_takes 1 (length p) (suc (length p))
    (digits_complete h r (count + 1) (v * 16 + digit_worth d) (omega arith) (omega (arith, few)) worth) (omega arith)

-- ## Escapes

module _ (byte : Bool) where
  data Pair : List ℕ → Type 0 where
    pair : {h l : ℕ} → ltb (digit_worth h) (cond byte 16 8) ≡ true → hex_digit l ≡ true → Pair (h ∷ l ∷ [])

  pair_sound : (s : List ℕ) → Cut (λ p r. Pair p) s (hex_escape byte s)
  unfolding hex_escape digit_worth
  pair_sound [] = choice (ltb 16 (cond byte 16 8) && false)
      (λ e. absurd (false≢true (and_parts (ltb 16 (cond byte 16 8)) _ e).1)) (λ e. none)
  pair_sound (h ∷ []) = choice (ltb (digit_worth h) (cond byte 16 8) && false)
      (λ e. absurd (false≢true (and_parts (ltb (digit_worth h) (cond byte 16 8)) _ e).1)) (λ e. none)
  pair_sound (h ∷ l ∷ s) =
      choice (ltb (digit_worth h) (cond byte 16 8) && hex_digit l)
      (λ e. let both = and_parts _ _ e in cut (h ∷ l ∷ []) s (pair both.0 both.1) refl) (λ e. none)

  data Braced : List ℕ → Type 0 where
    braced : {d : ℕ} {ds p : List ℕ} → hex_digit d ≡ true → HexDigits ds p → ltb (length ds) 6 ≡ true
        → scalar (hex_worth 0 (d ∷ ds)) ≡ true → Braced (d ∷ p)

  first_sound : (s : List ℕ) → Cut (λ p r. Braced p) s (hex_digits 0 0 s)
  first_sound [] = none
  first_sound (b ∷ s) =
      choice (eqb b (code "}")) (λ e. none)
      (λ e. choice (eqb b UNDERSCORE && false) (λ f. absurd (false≢true (and_parts (eqb b UNDERSCORE) _ f).1))
      (λ f. choice (hex_digit b && true)
      (λ g. let first = and_parts (hex_digit b) _ g in
      before (b ∷ []) 1 refl (digits_sound s 1 (0 * 16 + digit_worth b) (omega arith) (omega arith))
      (λ p r h. braced first.0 h.form (lt-ltb (length h.digits) 6 (omega (arith, h.few))) h.worth))
      (λ g. none)))

  escape_sound : (s : List ℕ) → Cut (λ p r. Escape byte p) s (escape byte s)
  unfolding escape unicode_escape
  escape_sound [] = none
  escape_sound (b ∷ s) =
      choice (member b (bytes "nrt\\0'\"")) (λ e. cut (b ∷ []) s (Escape.plain e) refl)
      (λ e. choice (eqb b (code "x"))
      (λ f. at_byte (code "x") f (before (code "x" ∷ []) 1 refl (pair_sound s) hex))
      (λ f. choice (eqb b (code "u") && not byte)
      (λ g. let both = and_parts (eqb b (code "u")) _ g in at_byte (code "u") both.0 (unicode both.1 s))
      (λ g. none)))
    where
      hex : (p r : List ℕ) → Pair p → Escape byte (code "x" ∷ p)
      hex p r (pair h l) = Escape.hex h l

      unicode : not byte ≡ true → (s : List ℕ)
          → Cut (λ p r. Escape byte p) (code "u" ∷ s)
          (after 1 (cond (eqb (get_or s 0 0) (code "{")) (after 1 (hex_digits 0 0 (drop 1 s))) fault))
      unicode plain [] = none
      unicode plain (c ∷ s) =
          before {P = λ p r. Escape byte (code "u" ∷ p)} (code "u" ∷ []) 1 refl
          (choice (eqb c (code "{"))
          (λ e. at_byte (code "{") e (before (code "{" ∷ []) 1 refl (first_sound s) made)) (λ e. none)) (λ p r h. h)
        where
          made : (p r : List ℕ) → Braced p → Escape byte (code "u" ∷ code "{" ∷ p)
          made p r (braced d ds few worth) = Escape.unicode (not-true byte plain) d ds few worth

  escape_complete : {p : List ℕ} → Escape byte p → (r : List ℕ) → escape byte (p ++ r) ≡ takes (length p)
  unfolding escape hex_escape unicode_escape digit_worth
  escape_complete (Escape.plain e) r = chosen _ _ _ e
  escape_complete (Escape.hex h l) r = after_takes 1 2 3 (chosen _ _ _ (and_both _ _ h l)) refl
  escape_complete (Escape.unicode {d} {ds} {p} plain first h few worth) r =
      let rest = digits_complete h r 1 (0 * 16 + digit_worth d) (omega arith)
      (omega (arith, ltb-true (length ds) 6 few)) worth in
      let all = passed_over _ _ _ (apart hex_digit d (code "}") first refl)
      ∙ passed_over _ _ _ (and_fails _ _ (apart hex_digit d UNDERSCORE first refl))
      ∙ chosen _ _ _ (and_both _ _ first refl)
      ∙ after_takes 1 (length p) (suc (length p)) rest (omega arith) in
      chosen _ _ _ (ap not plain)
      ∙ after_takes 1 (suc (suc (length p))) (suc (suc (suc (length p))))
      (after_takes 1 (suc (length p)) (suc (suc (length p))) all (omega arith)) (omega arith)

  -- ## Characters and strings

  module _ (quote : ℕ) (other : eqb BACKSLASH quote ≡ false) where
    pub unit_sound : (s : List ℕ) → Cut (λ p r. Unit byte quote p) s (unit byte quote s)
    unfolding unit
    unit_sound [] = none
    unit_sound (b ∷ s) =
        choice (eqb b BACKSLASH)
        (λ e. at_byte BACKSLASH e (before (BACKSLASH ∷ []) 1 refl (escape_sound s) (λ p r h. Unit.escape h)))
        (λ e. choice (printable b && not (eqb b quote))
        (λ f. let both = and_parts (printable b) _ f in
        cut (b ∷ []) s (Unit.plain both.0 (not-true (eqb b quote) both.1) e) refl) (λ f. none))

    pub unit_complete : {p : List ℕ} → Unit byte quote p → (r : List ℕ) → unit byte quote (p ++ r) ≡ takes (length p)
    unfolding unit
    unit_complete (Unit.plain e f g) r = passed_over _ _ _ g ∙ chosen _ _ _ (and_both _ _ e (ap not f))
    unit_complete (Unit.escape {p} h) r =
        after_takes 1 (length p) (suc (length p)) (escape_complete h r) (omega arith)

    pub unit-first : {b : ℕ} {p : List ℕ} → Unit byte quote (b ∷ p) → eqb b quote ≡ false
    unit-first (Unit.plain e f g) = f
    unit-first (Unit.escape h) = other

    unit_some : {p : List ℕ} → Unit byte quote p → 0 < length p
    unit_some (Unit.plain e f g) = omega arith
    unit_some (Unit.escape h) = omega arith

  pub data Character : List ℕ → Type 0 where
    char : {u : List ℕ} → Unit byte QUOTE u → Character (u ++ QUOTE ∷ [])

  pub character_sound : (s : List ℕ) → Cut (λ p r. Character p) s (character byte s)
  unfolding character
  character_sound s = go (unit_sound QUOTE refl s)
    where
      closed : (u r : List ℕ) (n : ℕ) → Unit byte QUOTE u → n ≡ length u → eqb (get_or r 0 0) QUOTE ≡ true
          → Cut (λ p r. Character p) (u ++ r) (takes (n + 1))
      closed u [] n h q e = absurd (false≢true e)
      closed u (c ∷ r) n h q e =
          let whole : n + 1 ≡ length (u ++ QUOTE ∷ []) = omega (arith, q, length-append u (QUOTE ∷ [])) in
          let text = append_assoc u (QUOTE ∷ []) r ∙ ap (λ (x : ℕ). u ++ x ∷ r) (sym (eqb-true c QUOTE e)) in
          cut_as text (cut (u ++ QUOTE ∷ []) r (char h) whole)

      go : {s : List ℕ} {t : Taken} → Cut (λ p r. Unit byte QUOTE p) s t
          → Cut (λ p r. Character p) s (onward t (λ n. closing QUOTE n s))
      go (cut u r {n = n} h q) =
          let byte-there = ap (λ (n : ℕ). get_or (u ++ r) n 0) q ∙ first_behind u r in
          choice (eqb (get_or (u ++ r) n 0) QUOTE)
          (λ e. closed u r n h q (ap (λ (b : ℕ). eqb b QUOTE) (sym byte-there) ∙ e)) (λ e. none)
      go none = none

  pub character_complete : {p : List ℕ} → Character p → (r : List ℕ) → character byte (p ++ r) ≡ takes (length p)
  unfolding character
  character_complete (char {u} h) r =
      let text = append_assoc u (QUOTE ∷ []) r in
      let whole : length u + 1 ≡ length (u ++ QUOTE ∷ []) = sym (length-append u (QUOTE ∷ [])) in
      ap (character byte) text
      ∙ ap (λ (t : Taken). onward t (λ n. closing QUOTE n (u ++ QUOTE ∷ r))) (unit_complete QUOTE refl h (QUOTE ∷ r))
      ∙ chosen _ _ _ (ap (λ (b : ℕ). eqb b QUOTE) (first_behind u (QUOTE ∷ r))) ∙ ap takes whole

  -- neither an escape nor one byte before a quote
  pub character-none : (s : List ℕ) → eqb (get_or s 0 0) BACKSLASH ≡ false → eqb (get_or s 1 0) QUOTE ≡ false
      → character byte s ≡ fault
  unfolding character unit
  character-none s e f =
      ap (λ (t : Taken). onward t (λ n. closing QUOTE n s)) (passed_over _ _ _ e)
      ∙ go (printable (get_or s 0 0) && not (eqb (get_or s 0 0) QUOTE))
    where
      go : (b : Bool) → onward (cond b (takes 1) fault) (λ n. closing QUOTE n s) ≡ fault
      go true = passed_over _ _ _ f
      go false = refl

  -- the bytes passed over
  string_skips : (a s : List ℕ) → string byte (length a) (a ++ s) ≡ after (length a) (string byte 0 s)
  string_skips [] s = sym (after_none (string byte 0 s))
  string_skips (b ∷ a) s =
      ap (after 1) (string_skips a s) ∙ after-after 1 (length a) (suc (length a)) (string byte 0 s) (omega arith)

  step_sound : {s : List ℕ} {t : Taken} → Cut (λ p r. Unit byte DOUBLE_QUOTE p) s t
      → ((r : List ℕ) → length r < length s → Cut (λ p r. Body byte p) r (string byte 0 r))
      → Cut (λ p r. Body byte p) s (onward t (λ n. after 1 (string byte (n - 1) (drop 1 s))))
  step_sound none rest = none
  step_sound (cut [] r h q) rest = absurd (omega (arith, unit_some DOUBLE_QUOTE refl h))
  step_sound (cut (c ∷ u) r {n = n} h q) rest =
      let skipped : n - 1 ≡ length u = omega (arith, q) in
      let short : length r < suc (length (u ++ r)) = omega (arith, length-append u r) in
      before (c ∷ []) 1 refl (subst (λ (t : Taken). Cut (λ p r. Body byte (c ∷ p)) (u ++ r) t)
      (sym (ap (λ (k : ℕ). string byte k (u ++ r)) skipped ∙ string_skips u r))
      (before u (length u) refl (rest r short) (λ p r b. Body.more h b))) (λ p r b. b)

  pub string_sound : (s : List ℕ) → Cut (λ p r. Body byte p) s (string byte 0 s)
  string_sound s = go (length s) s (omega arith)
    where
      go : (fuel : ℕ) (s : List ℕ) → length s ≤ fuel → Cut (λ p r. Body byte p) s (string byte 0 s)
      go zero [] l = none
      go zero (b ∷ s) l = absurd (omega (arith, l))
      go (suc fuel) [] l = none
      go (suc fuel) (b ∷ s) l =
          choice (eqb b DOUBLE_QUOTE) (λ e. at_byte DOUBLE_QUOTE e (cut (DOUBLE_QUOTE ∷ []) s Body.close refl))
          (λ e. step_sound (unit_sound DOUBLE_QUOTE refl (b ∷ s)) (λ r m. go fuel r (omega (arith, m, l))))

  step_complete : (u p r : List ℕ) → Unit byte DOUBLE_QUOTE u → string byte 0 (p ++ r) ≡ takes (length p)
      → string byte 0 (u ++ p ++ r) ≡ takes (length (u ++ p))
  step_complete [] p r h e = absurd (omega (arith, unit_some DOUBLE_QUOTE refl h))
  step_complete (c ∷ u) p r h e =
      let one : suc (length u) - 1 ≡ length u = omega arith in
      let whole : 1 + (length u + length p) ≡ suc (length (u ++ p)) = omega (arith, length-append u p) in
      ap (λ (t : List ℕ). string byte 0 (c ∷ t)) (append_assoc u p r)
      ∙ passed_over _ _ _ (unit-first DOUBLE_QUOTE refl h)
      ∙ ap (λ (t : Taken). onward t (λ n. after 1 (string byte (n - 1) (u ++ (p ++ r)))))
      (unit_complete DOUBLE_QUOTE refl h (p ++ r))
      ∙ ap (λ (k : ℕ). after 1 (string byte k (u ++ (p ++ r)))) one
      ∙ ap (after 1) (string_skips u (p ++ r) ∙ after_takes (length u) (length p) _ e refl) ∙ ap takes whole

  pub string_complete : {p : List ℕ} → Body byte p → (r : List ℕ) → string byte 0 (p ++ r) ≡ takes (length p)
  string_complete Body.close r = refl
  string_complete (Body.more {u} {p} h b) r = step_complete u p r h (string_complete b r)
