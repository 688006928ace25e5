-- Laws on tests of a part of a list, one byte at a time.
use Rattle.std.specs.Prelude.{nat_eq}
use Rattle.std.specs.List.{list_any, list_all}
use lib.Pointwise.{pointwise}
use mathlib.Core.Path.{◌≡◌, refl, ap, ◌∙◌, sym, subst}
use mathlib.Core.Bool.{Bool, true, false, ◌&&◌, ◌||◌, not, cond, true≢false, false≢true}
use mathlib.Core.List.{List, [], ◌∷◌, ◌++◌}
use Prim.Native.Nat.{ℕ, zero, suc, ◌+◌, ◌-◌, ◌≤◌, ◌<◌, min}
use native.Mathlib.Numerals.{add-one}
use native.Mathlib.Omega.{arith}
use lib.Dec.{T, eqb, leb}
use borrow.Author.Tests.{eq-eqb, eqb-true, leb-true, leb-false}
use lib.ListN.{length, get_or, take, drop, length-take, drop_of_length-le}
use lib.Seq.{slice, slice-cons, drop-cons, take-suc, take_all, drop-append-le, length-take-le}
use Rattle.token_list.specs.Text.{all, member, same, single}
use Rattle.token_list.specs.Row.{first}

-- a part that ends where it starts, or before, is empty
pub slice-none : (s : List ℕ) (i e : ℕ) → e ≤ i → slice i e s ≡ []
slice-none s i e h = drop_of_length-le (take e s) {i = i} (simp length-take (omega arith))

-- a part is its first byte and the part after it
pub slice_next : (s : List ℕ) (i e : ℕ) → i < e → e ≤ length s → slice i e s ≡ get_or s i 0 ∷ slice (i + 1) e s
slice_next s i e h k = rw add-one (slice-cons i e s 0 h k)

pub drop_next : (s : List ℕ) (i : ℕ) → i < length s → drop i s ≡ get_or s i 0 ∷ drop (i + 1) s
drop_next s i h = rw add-one (drop-cons s i 0 h)

pub and_last : (a b : Bool) → a ≡ true → (a && b) ≡ b
and_last a b e = rw e

pub and_fails : (a b : Bool) → a ≡ false → (a && b) ≡ false
and_fails a b e = rw e

pub and_both : (a b : Bool) → a ≡ true → b ≡ true → (a && b) ≡ true
and_both a b e f = rw (e, f)

pub and_parts : (a b : Bool) → (a && b) ≡ true → (a ≡ true) × (b ≡ true)
and_parts true b e = (refl, e)
and_parts false b e = absurd (false≢true e)

-- a choice by a test whose value is known
pub chosen : {A : Type 0} (b : Bool) (x y : A) → b ≡ true → cond b x y ≡ x
chosen b x y e = rw e

pub passed_over : {A : Type 0} (b : Bool) (x y : A) → b ≡ false → cond b x y ≡ y
passed_over b x y e = rw e

pub or_last : (a b : Bool) → a ≡ false → (a || b) ≡ b
or_last a b e = rw e

pub or_holds : (a b : Bool) → a ≡ true → (a || b) ≡ true
or_holds a b e = rw e

module _ (p : ℕ → Bool) (s : List ℕ) (e : ℕ) (fits : e ≤ length s) where
  pub all_next : (i : ℕ) → i < e → p (get_or s i 0) ≡ true → all p (slice i e s) ≡ all p (slice (i + 1) e s)
  all_next i h q = ap (all p) (slice_next s i e h fits) ∙ and_last _ _ q

  pub all_fails : (i : ℕ) → i < e → p (get_or s i 0) ≡ false → all p (slice i e s) ≡ false
  all_fails i h q = ap (all p) (slice_next s i e h fits) ∙ and_fails _ _ q

pub all_none : (p : ℕ → Bool) (s : List ℕ) (i e : ℕ) → e ≤ i → all p (slice i e s) ≡ true
all_none p s i e h = ap (all p) (slice-none s i e h)

-- a part that goes on by one byte
pub slice-more : (s : List ℕ) (from i : ℕ) → from ≤ i → i < length s →
    slice from (i + 1) s ≡ slice from i s ++ get_or s i 0 ∷ []
slice-more s from i h k =
    let e : from ≤ length (take i s) = rw (length-take-le i s (omega arith)) h in
    rw (add-one, take-suc s i 0, drop-append-le from (take i s))

all_last : (p : ℕ → Bool) (xs : List ℕ) (b : ℕ) → all p xs ≡ true → p b ≡ true → all p (xs ++ b ∷ []) ≡ true
all_last p [] b e q = and_both _ _ q refl
all_last p (x ∷ xs) b e q = go (p x) (λ f. all_last p xs b f q) e
  where
    go : (t : Bool) → (all p xs ≡ true → all p (xs ++ b ∷ []) ≡ true) → (t && all p xs) ≡ true →
        (t && all p (xs ++ b ∷ [])) ≡ true
    go true k f = k f
    go false k f = f

pub all_more : (p : ℕ → Bool) (s : List ℕ) (from i : ℕ) → from ≤ i → i < length s → all p (slice from i s) ≡ true →
    p (get_or s i 0) ≡ true
    → all p (slice from (i + 1) s) ≡ true
all_more p s from i h k e q = ap (all p) (slice-more s from i h k) ∙ all_last p (slice from i s) (get_or s i 0) e q

pub same_self : (xs : List ℕ) → same xs xs ≡ true
same_self [] = refl
same_self (x ∷ xs) = and_both _ _ (eq-eqb x x refl) (same_self xs)

pub same_path : (xs ys : List ℕ) → same xs ys ≡ true → xs ≡ ys
same_path [] [] e = refl
same_path [] (y ∷ ys) e = absurd (false≢true e)
same_path (x ∷ xs) [] e = absurd (false≢true e)
same_path (x ∷ xs) (y ∷ ys) e = let p = and_parts _ _ e in λ i. eqb-true x y p.0 i ∷ same_path xs ys p.1 i

-- texts of different lengths are not the same
pub same_length : (x y : List ℕ) → (length x ≡ length y → ⊥) → same x y ≡ false
same_length [] [] h = absurd (h refl)
same_length [] (b ∷ y) h = refl
same_length (a ∷ x) [] h = refl
same_length (a ∷ x) (b ∷ y) h = go (eqb a b) (same_length x y (λ e. h (ap suc e)))
  where
    go : (t : Bool) → same x y ≡ false → (t && same x y) ≡ false
    go true e = e
    go false e = refl

pub eqb_swap : (x y : ℕ) → eqb x y ≡ eqb y x
eqb_swap x y = grind arith

pub member_any : (b : ℕ) (s : List ℕ) → list_any (λ x. nat_eq x b) s ≡ member b s
member_any b [] = refl
member_any b (x ∷ s) = λ i. eqb_swap x b i || member_any b s i

pub all_list : (p : ℕ → Bool) (s : List ℕ) → list_all p s ≡ all p s
all_list p [] = refl
all_list p (x ∷ s) = ap (λ (t : Bool). p x && t) (all_list p s)

pub same_pointwise : (s t : List ℕ) → pointwise eqb s t ≡ same s t
same_pointwise [] [] = refl
same_pointwise [] (y ∷ t) = refl
same_pointwise (x ∷ s) [] = refl
same_pointwise (x ∷ s) (y ∷ t) = ap (λ (u : Bool). eqb x y && u) (same_pointwise s t)

pub same_swap : (s t : List ℕ) → same s t ≡ same t s
same_swap [] [] = refl
same_swap [] (y ∷ t) = refl
same_swap (x ∷ s) [] = refl
same_swap (x ∷ s) (y ∷ t) = λ i. eqb_swap x y i && same_swap s t i

-- ## A text of one byte

-- the byte of a text that has just one, else 0
abbrev pub only : List ℕ → ℕ
only [] = 0
only (b ∷ []) = b
only (b ∷ c ∷ bs) = 0

pub single_only : (p : ℕ → Bool) (t : List ℕ) → p 0 ≡ false → single p t ≡ p (only t)
single_only p [] e = sym e
single_only p (b ∷ []) e = refl
single_only p (b ∷ c ∷ t) e = sym e

pub first_only : (p : ℕ → Bool) (t : List ℕ) → p 0 ≡ false → p (only t) ≡ true → first t ≡ only t
first_only p [] e q = refl
first_only p (b ∷ []) e q = refl
first_only p (b ∷ c ∷ t) e q =
    let z : ◌≡◌ {A = Bool} false true = sym e ∙ q in absurd (subst (λ (x : Bool). T (not x)) z tt)

-- a list shorter than the name is not the name
pub same_longer : (s n : List ℕ) (k : ℕ) → length s < length n → same (take k s) n ≡ false
same_longer s n k h = same_length (take k s) n (λ e. absurd (omega (arith, length-take k s, e)))

pub same_fits : (s n : List ℕ) (k : ℕ) → same (take k s) n ≡ true → length n ≤ length s
same_fits s n k e = go (leb (length n) (length s)) refl
  where
    go : (b : Bool) → leb (length n) (length s) ≡ b → length n ≤ length s
    go true q = leb-true _ _ q
    go false q = absurd (true≢false (sym e ∙ same_longer s n k (leb-false _ _ q)))

-- ## A part of a list, from both sides

take_none : (n : ℕ) → ◌≡◌ {A = List ℕ} [] (take n [])
take_none zero = refl
take_none (suc n) = refl

pub drop_of_take : (a e : ℕ) (s : List ℕ) → slice a e s ≡ take (e - a) (drop a s)
drop_of_take zero e s = let n : e ≡ e - 0 = omega arith in ap (λ (n : ℕ). take n s) n
drop_of_take (suc a) zero s = let n : 0 ≡ 0 - suc a = omega arith in ap (λ (n : ℕ). take n (drop (suc a) s)) n
drop_of_take (suc a) (suc e) [] = take_none (suc e - suc a)
drop_of_take (suc a) (suc e) (b ∷ s) =
    let n : e - a ≡ suc e - suc a = omega arith in drop_of_take a e s ∙ ap (λ (n : ℕ). take n (drop a s)) n

take_cut : (s : List ℕ) (e : ℕ) → take (min e (length s)) s ≡ take e s
take_cut s e = go (leb e (length s)) refl
  where
    go : (b : Bool) → leb e (length s) ≡ b → take (min e (length s)) s ≡ take e s
    go true q =
        let h = leb-true e (length s) q in
        let n : min e (length s) ≡ e = omega (arith, h) in ap (λ (k : ℕ). take k s) n
    go false q =
        let h = leb-false e (length s) q in
        take_all (min e (length s)) s (omega (arith, h)) ∙ sym (take_all e s (omega (arith, h)))

drop_cut : (t : List ℕ) (i n : ℕ) → length t ≤ n → drop (min i n) t ≡ drop i t
drop_cut t i n h = go (leb i n) refl
  where
    go : (b : Bool) → leb i n ≡ b → drop (min i n) t ≡ drop i t
    go true q =
        let k = leb-true i n q in
        let m : min i n ≡ i = omega (arith, k) in ap (λ (j : ℕ). drop j t) m
    go false q =
        let k = leb-false i n q in
        drop_of_length-le t {i = min i n} (omega (arith, h, k))
        ∙ sym (drop_of_length-le t {i = i} (omega (arith, h, k)))

-- a part whose end is cut to the list, and its start to its end, is the same
pub slice_cut : (s : List ℕ) (a e from to : ℕ) → to ≡ min e (length s) → from ≡ min a to →
    take (to - from) (drop from s) ≡ slice a e s
slice_cut s a e from to end start =
    let short : length (take to s) ≤ to = simp length-take (omega arith) in
    sym (drop_of_take from to s) ∙ ap (λ (i : ℕ). slice i to s) start ∙ drop_cut (take to s) a to short
    ∙ ap (drop a) (ap (λ (n : ℕ). take n s) end ∙ take_cut s e)
