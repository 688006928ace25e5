-- Laws on the worth of an integer literal.
use mathlib.Core.Path.{◌≡◌, refl, ap, ◌∙◌, sym}
use mathlib.Core.Bool.{Bool, true, false, cond, ◌&&◌}
use mathlib.Core.List.{List, [], ◌∷◌}
use Prim.Native.Nat.{ℕ, ◌+◌, ◌-◌, ◌*◌, ◌≤◌, ◌<◌}
use native.Mathlib.Nat.{le-mul_of_pos_right}
use native.Mathlib.Numerals.{add-one}
use native.Mathlib.Omega.{arith}
use borrow.Author.Tests.{leb-true, lt-leb, le-leb, lt-ltb, le-ltb, eq-eqb, ne_eqb}
use lib.Dec.{leb, ltb, eqb}
use lib.ListN.{length, get_or, take, drop}
use lib.IntN.{ℤ, pos}
use lib.Seq.{drop-cons}
use Rattle.std.specs.Prelude.{Option, Some, None}
use Rattle.std.specs.Option.{option_map}
use Rattle.std.proofs.lemmas.List.{take_rest}
use Rattle.token_list.specs.Byte.{UNDERSCORE}
use Rattle.token_list.specs.Text.{between, digit_worth}
use Rattle.token_list.proofs.Texts.{and_parts, and_both, chosen, passed_over}
use Rattle.reading.specs.Token.{MAX_I64}
use Rattle.describe.specs.Integer.{suffix, ended, digits, radix_of, radix, decimal_integer}
use Rattle.describe.specs.Integer.{integer, in_range}

-- ## Digits

-- more digits are never worth less
grown : (radix n d : ℕ) → 1 ≤ radix → n ≤ n * radix + d
grown radix n d h = omega (arith, le-mul_of_pos_right n h)

ended_large : (any : Bool) (n : ℕ) (t : List ℕ) → MAX_I64 < n → in_range (ended any n t) ≡ None
ended_large any n t k = go (any && suffix t)
  where
    go : (b : Bool) → in_range (cond b (Some n) None) ≡ None
    go true = passed_over _ _ _ (lt-leb n MAX_I64 k)
    go false = refl

-- what is out of range stays so
pub digits_large : (radix : ℕ) → 1 ≤ radix → (any : Bool) (n : ℕ) (t : List ℕ) → MAX_I64 < n →
    in_range (digits radix any n t) ≡ None
digits_large radix h any n [] k = ended_large any n [] k
digits_large radix h any n (b ∷ t) k =
    go (eqb b UNDERSCORE) (ltb (digit_worth b) radix) (digits_large radix h any n t k)
    (digits_large radix h true (n * radix + digit_worth b) t (omega (arith, grown radix n (digit_worth b) h)))
  where
    go : (u d : Bool) → in_range (digits radix any n t) ≡ None →
        in_range (digits radix true (n * radix + digit_worth b) t) ≡ None
        → in_range (cond u (digits radix any n t)
        (cond d (digits radix true (n * radix + digit_worth b) t) (ended any n (b ∷ t)))) ≡ None
    go true d x y = x
    go false true x y = y
    go false false x y = ended_large any n (b ∷ t) k

-- the digits from i on, where those before them are worth n
pub record Reading (t : List ℕ) (radix : ℕ) (any : Bool) (n i : ℕ) : Type 0 where
  pub same : in_range (digits radix false 0 t) ≡ in_range (digits radix any n (drop i t))

module _ {t : List ℕ} {radix n i : ℕ} {any : Bool} (r : Reading t radix any n i) (h : i < length t) where
  abbrev rest : List ℕ
  rest = drop (i + 1) t

  abbrev byte : ℕ
  byte = get_or t i 0

  next : drop i t ≡ byte ∷ rest
  next = rw (add-one, drop-cons t i 0)

  module _ (non : byte ≡ UNDERSCORE → ⊥) where
    reading_digit : digit_worth byte < radix → Reading t radix true (n * radix + digit_worth byte) (i + 1)
    reading_digit k =
        record {
          same = r.same ∙ ap in_range (ap (digits radix any n) next ∙ passed_over _ _ _ (ne_eqb byte UNDERSCORE non) ∙
              chosen _ _ _ (lt-ltb (digit_worth byte) radix k));
        }

    pub reading_large : 1 ≤ radix → digit_worth byte < radix → MAX_I64 < n * radix + digit_worth byte →
        in_range (digits radix false 0 t) ≡ None
    reading_large p k l =
        (reading_digit k).same ∙ digits_large radix p true (n * radix + digit_worth byte) rest l

-- ## The literal

-- what the code answers of a literal
abbrev pub worth_of : List ℕ → Option ℤ
worth_of t = option_map pos (in_range (integer t))

-- a `0` and a byte that tells a radix
pub radix_is : (t : List ℕ) {r : ℕ} → 2 ≤ length t → get_or t 0 0 ≡ 48 → radix_of (get_or t 1 0) ≡ r → r ≡ radix t
radix_is [] h e f = absurd (omega arith)
radix_is (x ∷ []) h e f = absurd (omega arith)
radix_is (x ∷ y ∷ t) h e f = sym (chosen _ _ _ (eq-eqb x 48 e) ∙ f)

module _ {b : ℕ} where
  pub binary : b ≡ 98 → radix_of b ≡ 2
  unfolding radix_of
  binary e = ap radix_of e

  pub octal : b ≡ 111 → radix_of b ≡ 8
  unfolding radix_of
  octal e = ap radix_of e

  pub hexadecimal : b ≡ 120 → radix_of b ≡ 16
  unfolding radix_of
  hexadecimal e = ap radix_of e

  pub no_radix : (b ≡ 98 → ⊥) → (b ≡ 111 → ⊥) → (b ≡ 120 → ⊥) → radix_of b ≡ 0
  unfolding radix_of
  no_radix e f g =
      passed_over _ _ _ (ne_eqb b 98 e) ∙ passed_over _ _ _ (ne_eqb b 111 f) ∙ passed_over _ _ _ (ne_eqb b 120 g)

pub integer-prefixed : (t : List ℕ) {r : ℕ} → r ≡ radix t → 2 ≤ r →
    option_map pos (in_range (digits r false 0 (take (length t - 2) (drop 2 t)))) ≡ worth_of t
unfolding integer
integer-prefixed t {r} e h =
    ap (λ (w : Option ℕ). option_map pos (in_range w))
    ((λ i. digits (e i) false 0 (take_rest t 2 i)) ∙
    sym (passed_over _ _ _ (ne_eqb (radix t) 0 (λ f. omega (arith, e, f)))))

plain : (t : List ℕ) → 0 ≡ radix t → integer t ≡ decimal_integer t
unfolding integer
plain t e = chosen _ _ _ (eq-eqb (radix t) 0 (sym e))

-- the digits, by their bytes
digit_is : (b : ℕ) → ltb (digit_worth b) 10 ≡ between 48 57 b
unfolding digit_worth
digit_is b = go (between 48 57 b) refl
  where
    letter : (l u : Bool) → 10 ≤ cond l (b - 97 + 10) (cond u (b - 65 + 10) 16)
    letter true u = omega arith
    letter false true = omega arith
    letter false false = omega arith

    go : (d : Bool) → between 48 57 b ≡ d →
        ltb (cond (between 48 57 b) (b - 48) (cond (between 97 102 b) (b - 97 + 10)
        (cond (between 65 70 b) (b - 65 + 10) 16))) 10 ≡ d
    go true e =
        let low = leb-true b 57 (and_parts (leb 48 b) (leb b 57) e).1 in
        ap (λ (n : ℕ). ltb n 10) (chosen _ _ _ e) ∙ lt-ltb (b - 48) 10 (omega (arith, low))
    go false e =
        ap (λ (n : ℕ). ltb n 10) (passed_over _ _ _ e) ∙
        le-ltb _ 10 (letter (between 97 102 b) (between 65 70 b))

pub integer-decimal : (t : List ℕ) → 0 ≡ radix t → 1 ≤ length t → 48 ≤ get_or t 0 0 → get_or t 0 0 ≤ 57 →
    option_map pos (in_range (digits 10 false 0 t)) ≡ worth_of t
integer-decimal [] e h k l = absurd (omega arith)
integer-decimal (x ∷ t) e h k l =
    let digit = digit_is x ∙ and_both _ _ (le-leb 48 x k) (le-leb x 57 l) in
    ap (λ (w : Option ℕ). option_map pos (in_range w)) (sym (chosen _ _ _ digit) ∙ sym (plain (x ∷ t) e))

pub no_integer : (t : List ℕ) → 0 ≡ radix t → (1 ≤ length t → 48 ≤ get_or t 0 0 → get_or t 0 0 ≤ 57 → ⊥) →
    None ≡ worth_of t
no_integer [] e h = ap (λ (w : Option ℕ). option_map pos (in_range w)) (sym (plain [] e))
no_integer (x ∷ t) e h =
    let digit = digit_is x ∙ go (between 48 57 x) refl in
    ap (λ (w : Option ℕ). option_map pos (in_range w)) (sym (passed_over _ _ _ digit) ∙ sym (plain (x ∷ t) e))
  where
    go : (b : Bool) → between 48 57 x ≡ b → between 48 57 x ≡ false
    go true f =
        let k = and_parts (leb 48 x) (leb x 57) f in
        absurd (h (omega arith) (leb-true 48 x k.0) (leb-true x 57 k.1))
    go false f = f
