-- Numbers, from an offset on.
use mathlib.Core.Path.{◌≡◌, refl, ap, ◌∙◌, sym}
use mathlib.Core.Bool.{Bool, true, false, cond, not, ◌&&◌, ◌||◌, false≢true}
use mathlib.Core.List.{List, [], ◌∷◌}
use Prim.Native.Nat.{ℕ, ◌+◌, ◌-◌, ◌≤◌, ◌<◌}
use native.Mathlib.Omega.{arith}
use borrow.Author.Tests.{eq-eqb, ne_eqb, eqb-true, lt-ltb, leb-true, leb-false}
use lib.Dec.{eqb, leb}
use lib.ListN.{length, get_or, take, drop}
use Rattle.token_list.specs.Byte.{DOT, ZERO, UNDERSCORE}
use Rattle.std.specs.List.{list_any}
use Rattle.token_list.specs.Text.{all, digit, name_start, digit_worth}
use Rattle.token_list.proofs.Texts.{chosen, passed_over, and_both, and_parts, and_fails}
use Rattle.token_list.proofs.Digits.{digit-worth}
use Rattle.source.specs.Bytes.{in_digits}
use Rattle.source.specs.Taken.{Taken, takes, fault, after, run}
use Rattle.source.specs.Number.{any_digit, dotted, exponent_start, radix_of, reserved, digits_of, radix_digits}
use Rattle.source.specs.Number.{fraction, sign_length, exponent_of, exponent, with_exponent, decimal, number}
use Rattle.source.specs.Contract.{RunEnd, FractionEnd, SignEnd}
use Rattle.source.proofs.Offsets.{and_fails_last, stands, byte-first, byte_behind, drop_behind}
use Rattle.source.proofs.Runs.{run_on}

pub dotted_at : (s : List ℕ) (i : ℕ)
    → dotted (drop i s)
    ≡ (eqb (get_or s i 0) DOT && not (eqb (get_or s (i + 1) 0) DOT || name_start (get_or s (i + 1) 0)))
unfolding dotted
dotted_at s i = rw (byte-first s i, byte_behind s i 1)

pub dotted-stands : (s : List ℕ) (i : ℕ) → dotted (drop i s) ≡ true → i < length s
dotted-stands s i h =
    let dot = eqb-true (get_or s i 0) DOT (and_parts (eqb (get_or s i 0) DOT) _ (sym (dotted_at s i) ∙ h)).0 in
    stands s i (λ e. omega (arith, e, dot))

-- no digit stands in nothing
pub any_forth : (s : List ℕ) (i e : ℕ) → any_digit (take (e - i) (drop i s)) ≡ true → i < e
unfolding any_digit
any_forth s i e h = go (leb e i) refl
  where
    go : (b : Bool) → leb e i ≡ b → i < e
    go true q =
        let n : e - i ≡ 0 = omega (arith, leb-true e i q) in
        absurd (false≢true (sym (ap (λ (k : ℕ). any_digit (take k (drop i s))) n) ∙ h))
    go false q = leb-false e i q

-- a digit is what is no `_`
pub any_other : (t : List ℕ) → list_any (λ b. not (eqb b UNDERSCORE)) t ≡ any_digit t
unfolding any_digit
any_other [] = refl
any_other (b ∷ t) = go (eqb b UNDERSCORE) (any_other t)
  where
    some : Bool
    some = list_any (λ b. not (eqb b UNDERSCORE)) t

    go : (c : Bool) → some ≡ not (all (λ b. eqb b UNDERSCORE) t)
        → (not c || some) ≡ not (c && all (λ b. eqb b UNDERSCORE) t)
    go true e = e
    go false e = refl

-- ## A run of digits from i to e

module _ {p : ℕ → Bool} {s : List ℕ} {i e : ℕ} (h : RunEnd p s i e) where
  length_of : run p (drop i s) ≡ e - i
  length_of = omega (arith, h.told)

  text_of : take (run p (drop i s)) (drop i s) ≡ take (e - i) (drop i s)
  text_of = ap (λ (n : ℕ). take n (drop i s)) length_of

  behind : drop (run p (drop i s)) (drop i s) ≡ drop e s
  behind = drop_behind s i (run p (drop i s)) ∙ ap (λ (n : ℕ). drop n s) (sym h.told)

  pub digits_at : digits_of (run p (drop i s)) (drop i s)
      ≡ cond (any_digit (take (e - i) (drop i s)) && not (reserved (drop e s))) (takes (e - i)) fault
  digits_at =
      (λ j. cond (any_digit (text_of j) && not (reserved (behind j))) (takes (length_of j)) fault)

  pub exponent-digits : exponent_of (run p (drop i s)) (drop i s)
      ≡ cond (any_digit (take (e - i) (drop i s))) (takes (e - i)) fault
  exponent-digits = (λ j. cond (any_digit (text_of j)) (takes (length_of j)) fault)

-- ## The fraction

module _ {s : List ℕ} {i e : ℕ} (h : RunEnd (in_digits 10) s i e) (within : i ≤ length s) where
  pub fraction_some : {r : ℕ} → dotted (drop e s) ≡ true → RunEnd (in_digits 10) s (e + 1) r → FractionEnd s i r
  fraction_some {r} q k =
      let n = run (in_digits 10) (drop i s) in
      let place : i + (n + 1) ≡ e + 1 = omega (arith, h.told) in
      let rest = drop_behind s i (n + 1) ∙ ap (λ (m : ℕ). drop m s) place in
      let more = ap (λ (t : List ℕ). n + 1 + run (in_digits 10) t) rest in
      let whole = chosen _ _ n (ap dotted (behind h) ∙ q) ∙ more in
      record {
        told = omega (arith, whole, k.told, h.told);
        within = k.within (omega (arith, dotted-stands s e q));
      }

fraction_least : (n : ℕ) (s : List ℕ) → n ≤ fraction n s
fraction_least n s = go (dotted (drop n s))
  where
    go : (b : Bool) → n ≤ cond b (n + 1 + run (in_digits 10) (drop (n + 1) s)) n
    go true = omega arith
    go false = omega arith

pub digit-digits : (b : ℕ) → digit b ≡ true → in_digits 10 b ≡ true
unfolding in_digits
digit-digits b h =
    let p = and_parts (leb 48 b) (leb b 57) h in
    let low = leb-true 48 b p.0 in
    let high = leb-true b 57 p.1 in
    let worth = digit-worth b low high in
    go (eqb b UNDERSCORE) (lt-ltb (digit_worth b) 10 (omega (arith, worth, low, high)))
  where
    go : (t : Bool) {x : Bool} → x ≡ true → (t || x) ≡ true
    go true q = refl
    go false q = q

pub digit-stands : (s : List ℕ) (i : ℕ) → digit (get_or s i 0) ≡ true → i < length s
digit-stands s i h =
    let low = leb-true 48 (get_or s i 0) (and_parts (leb 48 (get_or s i 0)) _ h).0 in
    stands s i (λ e. omega (arith, e, low))

-- a number that begins with a digit has a byte at least
pub fraction_forth : {s : List ℕ} {i r : ℕ} → digit (get_or s i 0) ≡ true → FractionEnd s i r → i < r
fraction_forth {s} {i} {r} h f =
    let n = run (in_digits 10) (drop i s) in
    let some = run_on (in_digits 10) s i (digit-stands s i h) (digit-digits (get_or s i 0) h) in
    omega (arith, some, f.told, fraction_least n (drop i s))

-- ## Exponents

pub exponent_at : {s : List ℕ} {i start : ℕ} → SignEnd s i start
    → exponent (drop i s)
    ≡ after (start - i) (exponent_of (run (in_digits 10) (drop start s)) (drop start s))
unfolding exponent
exponent_at {s} {i} {start} h =
    let sign = ap sign_length (byte-first s i) in
    let place : i + sign_length (get_or s i 0) ≡ start = sym h.told in
    let count : sign_length (get_or s i 0) ≡ start - i = omega (arith, h.told) in
    let rest = drop_behind s i (sign_length (get_or s i 0)) ∙ ap (λ (n : ℕ). drop n s) place in
    let digits : List ℕ → Taken = λ t. exponent_of (run (in_digits 10) t) t in
    ap (λ (k : ℕ). after k (digits (drop k (drop i s)))) sign
    ∙ (λ j. after (count j) (digits (rest j)))

module _ {s : List ℕ} {i e : ℕ} (f : FractionEnd s i e) where
  length_so_far : fraction (run (in_digits 10) (drop i s)) (drop i s) ≡ e - i
  length_so_far = omega (arith, f.told)

  byte_there : get_or (drop i s) (e - i) 0 ≡ get_or s e 0
  byte_there =
      let place : i + (e - i) ≡ e = omega (arith, f.told) in
      byte_behind s i (e - i) ∙ ap (λ (n : ℕ). get_or s n 0) place

  whole : decimal (drop i s) ≡ with_exponent (e - i) (drop i s)
  unfolding decimal
  whole = ap (λ (n : ℕ). with_exponent n (drop i s)) length_so_far

  pub decimal_plain : exponent_start (get_or s e 0) ≡ false → decimal (drop i s) ≡ takes (e - i)
  decimal_plain q = whole ∙ passed_over _ _ _ (ap exponent_start byte_there ∙ q)

  pub decimal-exponent : exponent_start (get_or s e 0) ≡ true
      → decimal (drop i s) ≡ after (e + 1 - i) (exponent (drop (e + 1) s))
  decimal-exponent q =
      let count : e - i + 1 ≡ e + 1 - i = omega (arith, f.told) in
      let place : i + (e - i + 1) ≡ e + 1 = omega (arith, f.told) in
      let rest = drop_behind s i (e - i + 1) ∙ ap (λ (n : ℕ). drop n s) place in
      whole ∙ chosen _ _ _ (ap exponent_start byte_there ∙ q) ∙ (λ j. after (count j) (exponent (rest j)))

pub exponent-stands : (s : List ℕ) (i : ℕ) → exponent_start (get_or s i 0) ≡ true → i < length s
exponent-stands s i h = stands s i (λ e. false≢true (sym (ap exponent_start e) ∙ h))

-- ## By the first two bytes

pub radix-stands : (s : List ℕ) (i : ℕ) → (radix_of (get_or s i 0) ≡ 0 → ⊥) → i < length s
unfolding radix_of
radix-stands s i h = stands s i (λ e. h (ap radix_of e))

module _ (s : List ℕ) (i : ℕ) where
  number_at : number (drop i s)
      ≡ cond (eqb (get_or s i 0) ZERO && not (eqb (radix_of (get_or s (i + 1) 0)) 0))
      (after 2 (radix_digits (radix_of (get_or s (i + 1) 0)) (drop (i + 2) s))) (decimal (drop i s))
  unfolding number
  number_at = rw (byte-first s i, byte_behind s i 1, drop_behind s i 2)

  pub number-decimal : (get_or s i 0 ≡ ZERO → ⊥) → number (drop i s) ≡ decimal (drop i s)
  number-decimal h = number_at ∙ passed_over _ _ _ (and_fails _ _ (ne_eqb _ _ h))

  pub number_no_radix : radix_of (get_or s (i + 1) 0) ≡ 0 → number (drop i s) ≡ decimal (drop i s)
  number_no_radix h = number_at ∙ passed_over _ _ _ (and_fails_last (eqb (get_or s i 0) ZERO) (ap not (eq-eqb _ _ h)))

  pub number-radix : {r : ℕ} → get_or s i 0 ≡ ZERO → r ≡ radix_of (get_or s (i + 1) 0) → (r ≡ 0 → ⊥)
      → number (drop i s) ≡ after 2 (radix_digits r (drop (i + 2) s))
  number-radix {r} z e h =
      let some = ap not (ne_eqb (radix_of (get_or s (i + 1) 0)) 0 (λ q. h (e ∙ q))) in
      number_at ∙ chosen _ _ _ (and_both _ _ (eq-eqb _ _ z) some)
      ∙ ap (λ (k : ℕ). after 2 (radix_digits k (drop (i + 2) s))) (sym e)
