-- Laws on keys.
use mathlib.Core.Path.{◌≡◌, refl, sym, ◌∙◌, ap}
use mathlib.Core.Bool.{Bool, true, false, cond, ◌&&◌, false≢true}
use mathlib.Core.List.{List, [], ◌∷◌}
use Prim.Native.Nat.{ℕ, suc, ◌+◌, ◌-◌, ◌≤◌}
use native.Mathlib.Omega.{arith}
use borrow.Author.Tests.{eq-eqb, eqb-true}
use lib.Dec.{eqb, eqb-suc-suc}
use lib.IntN.{ℤ, pos, negsuc}
use lib.ListN.{length, take, drop, length-take}
use lib.Seq.{slice, drop-drop}
use Rattle.std.specs.List.{starts_with}
use Rattle.token_list.proofs.Texts.{drop_of_take, eqb_swap}
use Rattle.token_list.specs.Byte.{HASH, code}
use Rattle.token_list.specs.Text.{same}
use Rattle.token_list.proofs.Texts.{chosen, passed_over}
use Rattle.token_list.proofs.Texts.{same_self, same_path}
use Rattle.doubles.specs.Same.{bare, same_name, same_integer}
use Rattle.doubles.specs.Key.{same_key, hash, text_key, name_key, integer_key}
use Rattle.doubles.specs.Contract.{BareAt, KeyIn}

-- ## Names

and_none : (a : Bool) → (a && false) ≡ false
and_none true = refl
and_none false = refl

text_keys : (s t : List ℕ) → same_key (text_key s) (text_key t) ≡ same s t
text_keys s t = go (same s t) refl
  where
    go : (b : Bool) → same s t ≡ b → (eqb (hash 0 s) (hash 0 t) && b) ≡ b
    go true e = rw (eq-eqb (hash 0 s) (hash 0 t) (ap (hash 0) (same_path s t e)))
    go false e = and_none (eqb (hash 0 s) (hash 0 t))

pub same_names : (x y : List ℕ) → same_key (name_key x) (name_key y) ≡ same_name x y
same_names x y = text_keys (bare x) (bare y)

pub name_equal : (x y : List ℕ) → same_name x y ≡ true → bare x ≡ bare y
name_equal x y e = same_path (bare x) (bare y) e

pub equal_name : (x y : List ℕ) → bare x ≡ bare y → same_name x y ≡ true
equal_name x y e = ap (same (bare x)) (sym e) ∙ same_self (bare x)

-- ## Integers

and_true : (a : Bool) → (a && true) ≡ a
and_true true = refl
and_true false = refl

pub same_integers : (x y : ℤ) → same_key (integer_key x) (integer_key y) ≡ same_integer x y
same_integers (pos m) (pos n) = and_true (eqb m n)
same_integers (pos m) (negsuc n) = and_none (eqb m (suc n))
same_integers (negsuc m) (pos n) = and_none (eqb (suc m) n)
same_integers (negsuc m) (negsuc n) = and_true (eqb (suc m) (suc n)) ∙ eqb-suc-suc m n

pub integer_equal : (x y : ℤ) → same_integer x y ≡ true → x ≡ y
integer_equal (pos m) (pos n) e = ap pos (eqb-true m n e)
integer_equal (pos m) (negsuc n) e = absurd (false≢true e)
integer_equal (negsuc m) (pos n) e = absurd (false≢true e)
integer_equal (negsuc m) (negsuc n) e = ap negsuc (eqb-true m n e)

integer_self : (x : ℤ) → same_integer x x ≡ true
integer_self (pos m) = eq-eqb m m refl
integer_self (negsuc m) = eq-eqb m m refl

pub equal_integer : (x y : ℤ) → x ≡ y → same_integer x y ≡ true
equal_integer x y e = ap (same_integer x) (sym e) ∙ integer_self x

-- ## The key of an integer

-- ## A name without its `r#`

abbrev RAW : List ℕ
RAW = code "r" ∷ HASH ∷ []

raw_start : (t : List ℕ) → bare t ≡ cond (starts_with eqb t RAW) (drop 2 t) t
raw_start [] = refl
raw_start (r ∷ []) = sym (passed_over _ _ _ (and_none (eqb (code "r") r)))
raw_start (r ∷ h ∷ t) =
    λ i. cond (eqb_swap r (code "r") i && (eqb_swap h HASH ∙ sym (and_true (eqb HASH h))) i) t (r ∷ h ∷ t)

module _ (s : List ℕ) (start end : ℕ) (order : start ≤ end) where
  abbrev text : List ℕ
  text = take (end - start) (drop start s)

  part : slice start end s ≡ text
  part = drop_of_take start end s

  pub bare_raw : starts_with eqb text RAW ≡ true → 2 ≤ length text → BareAt s start end (start + 2)
  bare_raw e long = record {
    text = sym (raw_start (slice start end s)
        ∙ chosen _ _ _ (ap (λ (t : List ℕ). starts_with eqb t RAW) part ∙ e) ∙ drop-drop 2 start (take end s));
    order = omega (arith, long, length-take (end - start) (drop start s));
  }

  pub bare_plain : starts_with eqb text RAW ≡ false → BareAt s start end start
  bare_plain e = record {
    text = sym (raw_start (slice start end s)
        ∙ passed_over _ _ _ (ap (λ (t : List ℕ). starts_with eqb t RAW) part ∙ e));
    order = order;
  }

-- ## The key of a name

pub name-key : {s : List ℕ} {start end from number : ℕ} → BareAt s start end from
    → number ≡ hash 0 (slice from end s)
    → KeyIn s end (name_key (slice start end s)) (record { start = from; end = end; number = number })
name-key b e =
    let n = e ∙ ap (hash 0) b.text in
    record { key = λ i. record { text = b.text i; number = n i }; order = b.order; within = omega arith }
