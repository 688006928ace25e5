-- Numbers: what the definitions take is what the productions say.
use mathlib.Core.Path.{◌≡◌, refl, ap, ◌∙◌, sym, subst}
use mathlib.Core.Bool.{Bool, true, false, cond, not, ◌&&◌, ◌||◌, false≢true}
use mathlib.Core.List.{List, [], ◌∷◌, ◌++◌, append_assoc}
use Prim.Native.Nat.{ℕ, suc, ◌+◌}
use native.Mathlib.Omega.{arith}
use lib.Dec.{eqb}
use borrow.Author.Tests.{eqb-true, not-true}
use lib.ListN.{length, get_or, take, drop, length-append}
use lib.Seq.{take_at, drop_at, drop-append-add}
use Rattle.token_list.specs.Byte.{code, bytes, ZERO, DOT}
use Rattle.token_list.specs.Text.{member, same, digit, name_start, digit_worth}
use Rattle.token_list.proofs.Texts.{and_parts, and_both, and_fails, chosen, passed_over}
use Rattle.source.specs.Bytes.{in_digits}
use Rattle.source.specs.Taken.{Taken, takes, fault, after, run}
use Rattle.source.specs.Number.{any_digit, dotted, exponent_start, radix_of, reserved, radix_digits}
use Rattle.source.specs.Number.{fraction, exponent_of, exponent, with_exponent, decimal, number}
use Rattle.source.specs.Division.{begins, Longest, fraction_start, Radix, Fraction, Sign, Exponent, Number}
use Rattle.source.proofs.Offsets.{and_fails_last}
use Rattle.source.proofs.Numbers.{digit-digits}
use Rattle.source.proofs.DivisionCuts.{Cut, cut, none, choice, before, at_byte, cut_as, after_takes, or_parts}
use Rattle.source.proofs.DivisionCuts.{begins-first, first_behind, member-none, after-after, or_none, Ran, ran}
use Rattle.source.proofs.DivisionCuts.{run_sound, run_complete}

-- ## Tests of what follows

dotted_is : (s : List ℕ) → dotted s ≡ fraction_start s
unfolding dotted
dotted_is [] = refl
dotted_is (b ∷ s) = ap (λ (x : Bool). eqb b DOT && not x) (begins-first (λ c. eqb c DOT || name_start c) refl s)

reserved_is : (s : List ℕ) → reserved s ≡ ((begins digit s || begins exponent_start s) || fraction_start s)
unfolding reserved
reserved_is s =
    let a = begins-first digit refl s in
    let b = begins-first exponent_start refl s in
    λ i. (a i || b i) || dotted_is s i

-- ## A run of digits that passes a test, with what follows it

module _ (p : ℕ → Bool) (test : List ℕ → List ℕ → Bool) where
  record Digits (ds r : List ℕ) : Type 0 where
    longest : Longest p ds r
    tested : test ds r ≡ true

  digits_sound : (s : List ℕ)
      → Cut Digits s (cond (test (take (run p s) s) (drop (run p s) s)) (takes (run p s)) fault)
  digits_sound s = go (run_sound p s)
    where
      go : {s : List ℕ} {n : ℕ} → Ran p s n → Cut Digits s (cond (test (take n s) (drop n s)) (takes n) fault)
      go {n = n} (ran a r h q) =
          let there : test (take n (a ++ r)) (drop n (a ++ r)) ≡ test a r =
          λ i. test (take_at a r n (sym q) i) (drop_at a r n (sym q) i) in
          choice (test (take n (a ++ r)) (drop n (a ++ r)))
          (λ e. cut a r (record { longest = h; tested = sym there ∙ e }) q) (λ e. none)

  digits_complete : (ds r : List ℕ) → Longest p ds r → test ds r ≡ true
      → cond (test (take (run p (ds ++ r)) (ds ++ r)) (drop (run p (ds ++ r)) (ds ++ r)))
      (takes (run p (ds ++ r))) fault ≡ takes (length ds)
  digits_complete ds r h e =
      let n = run_complete h in
      let front = take_at ds r (run p (ds ++ r)) (sym n) in
      let rest = drop_at ds r (run p (ds ++ r)) (sym n) in
      chosen _ _ _ ((λ i. test (front i) (rest i)) ∙ e) ∙ ap takes n

-- ## BIN_LITERAL, OCT_LITERAL, HEX_LITERAL

abbrev based_test : List ℕ → List ℕ → Bool
based_test t r = any_digit t && not (reserved r)

box : (b : ℕ) → not (eqb (radix_of b) 0) ≡ member b (bytes "box")
unfolding radix_of
box b = go (eqb b (code "b")) (eqb b (code "o")) (eqb b (code "x"))
  where
    go : (x y z : Bool) → not (eqb (cond x 2 (cond y 8 (cond z 16 0))) 0) ≡ (x || (y || (z || false)))
    go true y z = refl
    go false true z = refl
    go false false true = refl
    go false false false = refl

radix_sound : (c : ℕ) → not (eqb (radix_of c) 0) ≡ true → Radix (radix_of c) c
unfolding radix_of
radix_sound c e = go (eqb c (code "b")) refl (eqb c (code "o")) refl (eqb c (code "x")) refl e
  where
    same_byte : {r x : ℕ} → Radix r x → eqb c x ≡ true → Radix r c
    same_byte {r} {x} h e = subst (λ (y : ℕ). Radix r y) (sym (eqb-true c x e)) h

    go : (x : Bool) → eqb c (code "b") ≡ x → (y : Bool) → eqb c (code "o") ≡ y → (z : Bool) → eqb c (code "x") ≡ z
        → not (eqb (cond x 2 (cond y 8 (cond z 16 0))) 0) ≡ true → Radix (cond x 2 (cond y 8 (cond z 16 0))) c
    go true p y q z r e = same_byte Radix.binary p
    go false p true q z r e = same_byte Radix.octal q
    go false p false q true r e = same_byte Radix.hex r
    go false p false q false r e = absurd (false≢true e)

based_made : {radix c : ℕ} {ds r : List ℕ} → Radix radix c → Digits (in_digits radix) based_test ds r
    → Number (ZERO ∷ c ∷ ds) r
based_made {ds = ds} {r} c h =
    let both = and_parts (any_digit ds) _ h.tested in
    let parts = or_parts _ _ (sym (reserved_is r) ∙ not-true (reserved r) both.1) in
    let first = or_parts _ _ parts.0 in
    Number.based c both.0 h.longest first.0 first.1 parts.1

module _ (ds r : List ℕ) (any : any_digit ds ≡ true) (no_digit : begins digit r ≡ false)
    (no-exponent : begins exponent_start r ≡ false) (no_fraction : fraction_start r ≡ false) where
  based_taken : (radix : ℕ) → Longest (in_digits radix) ds r
      → after 2 (radix_digits radix (ds ++ r)) ≡ takes (suc (suc (length ds)))
  unfolding radix_digits
  based_taken radix h =
      let free = reserved_is r ∙ or_none (or_none no_digit no-exponent) no_fraction in
      after_takes 2 (length ds) (suc (suc (length ds)))
      (digits_complete (in_digits radix) based_test ds r h (and_both _ _ any (ap not free))) (omega arith)

  based_complete : {radix c : ℕ} → Radix radix c → Longest (in_digits radix) ds r
      → number (ZERO ∷ c ∷ ds ++ r) ≡ takes (suc (suc (length ds)))
  unfolding number radix_of
  based_complete Radix.binary h = based_taken 2 h
  based_complete Radix.octal h = based_taken 8 h
  based_complete Radix.hex h = based_taken 16 h

-- ## Fractions

data FractionFound (a : List ℕ) : List ℕ → ℕ → Type 0 where
  found : (f r : List ℕ) {n : ℕ} → Fraction f r → n ≡ length a + length f → FractionFound a (f ++ r) n

module _ (a : List ℕ) where
  dotted_behind : (r : List ℕ) → dotted (drop (length a) (a ++ r)) ≡ fraction_start r
  dotted_behind r = ap dotted (drop_at a r (length a) refl) ∙ dotted_is r

  fraction_sound : (r : List ℕ) → FractionFound a r (fraction (length a) (a ++ r))
  fraction_sound r = go (dotted (drop (length a) (a ++ r))) (sym (dotted_behind r))
    where
      digits : {s : List ℕ} {n : ℕ} → fraction_start (DOT ∷ s) ≡ true → Ran (in_digits 10) s n
          → FractionFound a (DOT ∷ s) (length a + 1 + n)
      digits {n = n} e (ran ds r h q) =
          let whole : length a + 1 + n ≡ length a + suc (length ds) = omega (arith, q) in
          found (DOT ∷ ds) r (Fraction.some e h) whole

      some : (r : List ℕ) → fraction_start r ≡ true
          → FractionFound a r (length a + 1 + run (in_digits 10) (drop (length a + 1) (a ++ r)))
      some [] e = absurd (false≢true e)
      some (b ∷ r) e =
          let dot = eqb-true b DOT (and_parts (eqb b DOT) _ e).0 in
          let rest = drop-append-add a (b ∷ r) 1 in
          let there = digits (ap (λ (x : ℕ). fraction_start (x ∷ r)) (sym dot) ∙ e) (run_sound (in_digits 10) r) in
          subst (λ (t : List ℕ). FractionFound a (b ∷ r) (length a + 1 + run (in_digits 10) t)) (sym rest)
          (subst (λ (x : ℕ). FractionFound a (x ∷ r) (length a + 1 + run (in_digits 10) r)) (sym dot) there)

      go : (t : Bool) → fraction_start r ≡ t
          → FractionFound a r (cond t (length a + 1 + run (in_digits 10) (drop (length a + 1) (a ++ r))) (length a))
      go true e = some r e
      go false e = let whole : length a ≡ length a + 0 = omega arith in found [] r (Fraction.none e) whole

  fraction_complete : {f r : List ℕ} → Fraction f r → fraction (length a) (a ++ (f ++ r)) ≡ length a + length f
  fraction_complete (Fraction.none {after = r} e) =
      let whole : length a ≡ length a + 0 = omega arith in passed_over _ _ _ (dotted_behind r ∙ e) ∙ whole
  fraction_complete (Fraction.some {ds} {after = r} e h) =
      let rest = drop-append-add a (DOT ∷ ds ++ r) 1 in
      let count = ap (run (in_digits 10)) rest ∙ run_complete h in
      let whole : length a + 1 + run (in_digits 10) (drop (length a + 1) (a ++ (DOT ∷ ds ++ r)))
      ≡ length a + suc (length ds) = omega (arith, count) in
      chosen _ _ _ (dotted_behind (DOT ∷ ds ++ r) ∙ e) ∙ whole

-- ## Exponents

abbrev exponent_test : List ℕ → List ℕ → Bool
exponent_test t r = any_digit t

data Signed : List ℕ → List ℕ → Type 0 where
  signed : {sign ds r : List ℕ} → Sign sign → Digits (in_digits 10) exponent_test ds r → Signed (sign ++ ds) r

-- behind a sign of k bytes
abbrev signed_body : List ℕ → ℕ → Taken
signed_body s k = after k (exponent_of (run (in_digits 10) (drop k s)) (drop k s))

signed_sound : (s : List ℕ) → Cut Signed s (exponent s)
unfolding exponent
signed_sound [] = before [] 0 refl (digits_sound (in_digits 10) exponent_test []) (λ p r h. signed Sign.none h)
signed_sound (b ∷ s) = go (member b (bytes "+-")) refl
  where
    go : (t : Bool) → member b (bytes "+-") ≡ t → Cut Signed (b ∷ s) (signed_body (b ∷ s) (cond t 1 0))
    go true e =
        before (b ∷ []) 1 refl (digits_sound (in_digits 10) exponent_test s) (λ p r h. signed (Sign.some e) h)
    go false e = before [] 0 refl (digits_sound (in_digits 10) exponent_test (b ∷ s)) (λ p r h. signed Sign.none h)

signed_complete : {sign : List ℕ} (ds r : List ℕ) → Sign sign → any_digit ds ≡ true → Longest (in_digits 10) ds r
    → exponent (sign ++ ds ++ r) ≡ takes (length (sign ++ ds))
unfolding exponent any_digit in_digits digit_worth
signed_complete [] r Sign.none any h = absurd (false≢true any)
signed_complete (b ∷ ds) r Sign.none any h =
    let plain = member-none (in_digits 10) b (bytes "+-") (and_parts (in_digits 10 b) _ h.each).0 refl in
    ap (signed_body (b ∷ ds ++ r)) (passed_over _ _ _ plain)
    ∙ after_takes 0 (suc (length ds)) (suc (length ds)) (digits_complete (in_digits 10) exponent_test (b ∷ ds) r h any)
    (omega arith)
signed_complete ds r (Sign.some {b} e) any h =
    ap (signed_body (b ∷ ds ++ r)) (chosen _ _ _ e)
    ∙ after_takes 1 (length ds) (suc (length ds)) (digits_complete (in_digits 10) exponent_test ds r h any)
    (omega arith)

-- behind other bytes
exponent_behind : (a s : List ℕ) → with_exponent (length a) (a ++ s) ≡ after (length a) (with_exponent 0 s)
exponent_behind a s =
    (λ i. cond (exponent_start (first_behind a s i)) (after (length a + 1) (exponent (drop-append-add a s 1 i)))
    (takes (length a)))
    ∙ go (exponent_start (get_or s 0 0))
  where
    none_more : length a ≡ length a + 0
    none_more = omega arith

    go : (t : Bool) → cond t (after (length a + 1) (exponent (drop 1 s))) (takes (length a))
        ≡ after (length a) (cond t (after 1 (exponent (drop 1 s))) (takes 0))
    go true = sym (after-after (length a) 1 (length a + 1) (exponent (drop 1 s)) refl)
    go false = ap takes none_more

exponent_sound : (s : List ℕ) → Cut Exponent s (with_exponent 0 s)
exponent_sound [] = cut [] [] (Exponent.none refl) refl
exponent_sound (b ∷ s) =
    choice (exponent_start b) (λ e. before (b ∷ []) 1 refl (signed_sound s) (some e))
    (λ e. cut [] (b ∷ s) (Exponent.none e) refl)
  where
    some : exponent_start b ≡ true → (p r : List ℕ) → Signed p r → Exponent (b ∷ p) r
    some e p r (signed sign h) = Exponent.some e sign h.tested h.longest

exponent_complete : {x r : List ℕ} → Exponent x r → with_exponent 0 (x ++ r) ≡ takes (length x)
exponent_complete (Exponent.none {after = r} e) = passed_over _ _ _ (begins-first exponent_start refl r ∙ e)
exponent_complete (Exponent.some {sign = sign} {ds} {after = r} e g any h) =
    chosen _ _ _ e
    ∙ after_takes 1 (length (sign ++ ds)) (suc (length (sign ++ ds))) (signed_complete ds r g any h) (omega arith)

-- ## Decimal numbers

and_true : (t : Bool) → (t && true) ≡ t
and_true true = refl
and_true false = refl

module _ (d : ℕ) (first : digit d ≡ true) where
  -- a `0` before `b`, `o` or `x`
  based_start : List ℕ → Bool
  based_start s = eqb d ZERO && not (eqb (radix_of (get_or s 0 0)) 0)

  box_first : (r : List ℕ) → not (eqb (radix_of (get_or r 0 0)) 0) ≡ begins (λ b. member b (bytes "box")) r
  box_first r = box (get_or r 0 0) ∙ begins-first (λ b. member b (bytes "box")) refl r

  no_based : (ds r : List ℕ) → based_start (ds ++ r) ≡ false
      → (same (d ∷ ds) (bytes "0") && begins (λ b. member b (bytes "box")) r) ≡ false
  unfolding based_start
  no_based [] r e = (λ i. and_true (eqb d ZERO) i && sym (box_first r) i) ∙ e
  no_based (c ∷ ds) r e = and_fails _ _ (and_fails_last (eqb d ZERO) refl)

  no_radix : (ds r : List ℕ) → Longest (in_digits 10) ds r
      → (same (d ∷ ds) (bytes "0") && begins (λ b. member b (bytes "box")) r) ≡ false → based_start (ds ++ r) ≡ false
  unfolding based_start in_digits digit_worth
  no_radix [] r h e = (λ i. sym (and_true (eqb d ZERO)) i && box_first r i) ∙ e
  no_radix (c ∷ ds) r h e =
      let digit-there = (and_parts (in_digits 10 c) _ h.each).0 in
      and_fails_last (eqb d ZERO) (box c ∙ member-none (in_digits 10) c (bytes "box") digit-there refl)

  decimal_sound : (s : List ℕ) → based_start s ≡ false → Cut Number (d ∷ s) (decimal (d ∷ s))
  unfolding decimal
  decimal_sound s plain =
      subst (λ (n : ℕ). Cut Number (d ∷ s) (with_exponent (fraction n (d ∷ s)) (d ∷ s)))
      (sym (chosen (in_digits 10 d) (1 + run (in_digits 10) s) 0 (digit-digits d first)))
      (whole (run_sound (in_digits 10) s) plain)
    where
      raised : (ds f : List ℕ) {r : List ℕ} {t : Taken} → based_start (ds ++ (f ++ r)) ≡ false
          → Longest (in_digits 10) ds (f ++ r) → Fraction f r → Cut Exponent r t
          → Cut Number (d ∷ ds ++ f ++ r) (after (suc (length (ds ++ f))) t)
      raised ds f plain h k none = none
      raised ds f plain h k (cut x r {n = n} e q) =
          let count : suc (length (ds ++ f)) + n ≡ suc (length (ds ++ (f ++ x))) =
          omega (arith, q, length-append ds f, length-append ds (f ++ x), length-append f x) in
          let text = append_assoc ds (f ++ x) r ∙ ap (λ (t : List ℕ). ds ++ t) (append_assoc f x r)
          ∙ sym (append_assoc ds f (x ++ r)) in
          cut_as (ap (λ (t : List ℕ). d ∷ t) text)
          (cut (d ∷ ds ++ (f ++ x)) r (Number.decimal first h k e (no_based ds (f ++ (x ++ r)) plain)) count)

      fractioned : (ds : List ℕ) {r : List ℕ} {n : ℕ} → based_start (ds ++ r) ≡ false → Longest (in_digits 10) ds r
          → FractionFound (d ∷ ds) r n → Cut Number (d ∷ ds ++ r) (with_exponent n (d ∷ ds ++ r))
      fractioned ds plain h (found f r {n = n} k q) =
          let count : suc (length (ds ++ f)) ≡ n = omega (arith, q, length-append ds f) in
          let text = ap (λ (t : List ℕ). d ∷ t) (append_assoc ds f r) in
          let there = subst (λ (t : Taken). Cut Number (d ∷ ds ++ f ++ r) t) (sym (exponent_behind (d ∷ ds ++ f) r))
          (raised ds f plain h k (exponent_sound r)) in
          subst (λ (n : ℕ). Cut Number (d ∷ ds ++ (f ++ r)) (with_exponent n (d ∷ ds ++ (f ++ r)))) count
          (subst (λ (t : List ℕ). Cut Number t (with_exponent (suc (length (ds ++ f))) t)) text there)

      whole : {s : List ℕ} {n : ℕ} → Ran (in_digits 10) s n → based_start s ≡ false
          → Cut Number (d ∷ s) (with_exponent (fraction (1 + n) (d ∷ s)) (d ∷ s))
      whole {n = n} (ran ds r h q) plain =
          let count : suc (length ds) ≡ 1 + n = omega (arith, q) in
          subst (λ (n : ℕ). Cut Number (d ∷ ds ++ r) (with_exponent (fraction n (d ∷ ds ++ r)) (d ∷ ds ++ r))) count
          (fractioned ds plain h (fraction_sound (d ∷ ds) r))

  decimal_complete : (ds : List ℕ) {f x : List ℕ} (r : List ℕ) → Longest (in_digits 10) ds (f ++ (x ++ r))
      → Fraction f (x ++ r) → Exponent x r → decimal (d ∷ ds ++ (f ++ x) ++ r) ≡ takes (suc (length (ds ++ (f ++ x))))
  unfolding decimal
  decimal_complete ds {f} {x} r h k e =
      let text = append_assoc ds (f ++ x) r ∙ ap (λ (t : List ℕ). ds ++ t) (append_assoc f x r) in
      let again = append_assoc ds f (x ++ r) in
      let rest = run_complete h in
      let digits : 1 + run (in_digits 10) (ds ++ (f ++ (x ++ r))) ≡ suc (length ds) = omega (arith, rest) in
      let length-there = ap (λ (n : ℕ). fraction n (d ∷ ds ++ (f ++ (x ++ r))))
      (chosen (in_digits 10 d) (1 + run (in_digits 10) (ds ++ (f ++ (x ++ r)))) 0 (digit-digits d first) ∙ digits)
      ∙ fraction_complete (d ∷ ds) k in
      let count : suc (length ds) + length f ≡ suc (length (ds ++ f)) = omega (arith, length-append ds f) in
      let whole : suc (length (ds ++ f)) + length x ≡ suc (length (ds ++ (f ++ x))) =
      omega (arith, length-append ds f, length-append ds (f ++ x), length-append f x) in
      ap (λ (t : List ℕ). decimal (d ∷ t)) text
      ∙ ap (λ (n : ℕ). with_exponent n (d ∷ ds ++ (f ++ (x ++ r)))) (length-there ∙ count)
      ∙ ap (λ (t : List ℕ). with_exponent (suc (length (ds ++ f))) (d ∷ t)) (sym again)
      ∙ exponent_behind (d ∷ ds ++ f) (x ++ r)
      ∙ after_takes (suc (length (ds ++ f))) (length x) _ (exponent_complete e) whole

-- ## By the first two bytes

pub number_sound : (d : ℕ) (s : List ℕ) → digit d ≡ true → Cut Number (d ∷ s) (number (d ∷ s))
unfolding number radix_digits based_start
number_sound d s first =
    choice (eqb d ZERO && not (eqb (radix_of (get_or s 0 0)) 0))
    (λ e. let both = and_parts (eqb d ZERO) _ e in at_byte ZERO both.0 (based s both.1))
    (λ e. decimal_sound d first s e)
  where
    based : (s : List ℕ) → not (eqb (radix_of (get_or s 0 0)) 0) ≡ true
        → Cut Number (ZERO ∷ s) (after 2 (radix_digits (radix_of (get_or s 0 0)) (drop 1 s)))
    based [] e = absurd (false≢true (sym (box 0) ∙ e))
    based (c ∷ s) e =
        before (ZERO ∷ c ∷ []) 2 refl (digits_sound (in_digits (radix_of c)) based_test s)
        (λ p r h. based_made (radix_sound c e) h)

pub number_complete : {p r : List ℕ} → Number p r → number (p ++ r) ≡ takes (length p)
unfolding number based_start
number_complete (Number.based {ds = ds} {after = r} c any h no_digit no-exponent no_fraction) =
    based_complete ds r any no_digit no-exponent no_fraction c h
number_complete (Number.decimal {d} {ds} {fraction = f} {exponent = x} {after = r} first h k e plain) =
    let text = append_assoc ds (f ++ x) r ∙ ap (λ (t : List ℕ). ds ++ t) (append_assoc f x r) in
    passed_over _ _ _ (ap (based_start d first) text ∙ no_radix d first ds (f ++ (x ++ r)) h plain)
    ∙ decimal_complete d first ds r h k e
