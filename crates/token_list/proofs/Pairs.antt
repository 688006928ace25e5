-- Two texts compared from the last byte to the first.
use Rattle.std.specs.Prelude.{Option, Some, None, is_some}
use Rattle.std.specs.Option.{unwrap_or}
use Rattle.std.proofs.lemmas.List.{reverse-reverse}
use Rattle.std.specs.List.{position, position_or_len, zip}
use mathlib.Core.Path.{◌≡◌, refl, sym, ◌∙◌, ap, subst⁻¹}
use mathlib.Core.Bool.{Bool, true, false, cond, true≢false}
use mathlib.Core.List.{List, [], ◌∷◌, reverse}
use Prim.Native.Nat.{ℕ, suc, ◌+◌, ◌≤◌, ◌<◌}
use native.Mathlib.Omega.{arith}
use borrow.Author.Tests.{eq-eqb, ne_eqb, eqb-true, eqb-false, ltb-true, ltb-false}
use lib.Dec.{eqb, ltb}
use lib.ListN.{length, get_or, drop, length-reverse}
use Rattle.token_list.specs.Text.{same}
use Rattle.token_list.specs.Pairs.{until_unequal, unequal, pairs}
use Rattle.token_list.specs.Contract.{ComparedAs}
use Rattle.token_list.proofs.Texts.{chosen, passed_over, same_self, same_path, same_length}

-- ## Up to the first unequal pair

-- how many pairs before the first unequal one, or all
abbrev equal : List ℕ → List ℕ → ℕ
equal xs ys = position_or_len unequal (zip xs ys)

zip_length : (xs ys : List ℕ) → length xs ≡ length ys → length (zip xs ys) ≡ length xs
zip_length [] ys l = refl
zip_length (x ∷ xs) [] l = absurd (omega (arith, l))
zip_length (x ∷ xs) (y ∷ ys) l = ap suc (zip_length xs ys (omega (arith, l)))

-- an unequal pair there, or none
record Parted (xs ys : List ℕ) (n : ℕ) : Type 0 where
  unequal : n < length xs → (until_unequal xs ys ≡ n + 1) × (xs ≡ ys → ⊥)
  same : length xs ≤ n → (until_unequal xs ys ≡ length xs) × (xs ≡ ys)

parted : (xs ys : List ℕ) → length xs ≡ length ys → Parted xs ys (equal xs ys)
parted [] [] l = record { unequal = λ h. absurd (omega (arith, h)); same = λ h. (refl, refl) }
parted [] (y ∷ ys) l = absurd (omega (arith, l))
parted (x ∷ xs) [] l = absurd (omega (arith, l))
parted (x ∷ xs) (y ∷ ys) l = go (eqb x y) refl (parted xs ys (omega (arith, l)))
  where
    go : (t : Bool) → eqb x y ≡ t → Parted xs ys (equal xs ys) → Parted (x ∷ xs) (y ∷ ys) (equal (x ∷ xs) (y ∷ ys))
    go true e p = subst⁻¹ (Parted (x ∷ xs) (y ∷ ys)) next (record {
      unequal = λ h. let q = p.unequal (omega (arith, h)) in
          (chosen _ _ _ e ∙ omega (arith, q.0), λ s. q.1 (ap (drop 1) s));
      same = λ h. let q = p.same (omega (arith, h)) in
          (chosen _ _ _ e ∙ omega (arith, q.0), λ i. eqb-true x y e i ∷ q.1 i);
    })
      where
        next : equal (x ∷ xs) (y ∷ ys) ≡ 1 + equal xs ys
        next = rw e refl
    go false e p = subst⁻¹ (Parted (x ∷ xs) (y ∷ ys)) none (record {
      unequal = λ h. (passed_over _ _ _ e, λ s. eqb-false x y e (ap (λ (l : List ℕ). get_or l 0 0) s));
      same = λ h. absurd (omega (arith, h));
    })
      where
        none : equal (x ∷ xs) (y ∷ ys) ≡ 0
        none = rw e refl

until_most : (xs ys : List ℕ) → until_unequal xs ys ≤ length xs
until_most [] ys = omega arith
until_most (x ∷ xs) [] = omega arith
until_most (x ∷ xs) (y ∷ ys) = go (eqb x y) (until_most xs ys)
  where
    go : (t : Bool) → until_unequal xs ys ≤ length xs → cond t (1 + until_unequal xs ys) 1 ≤ suc (length xs)
    go true rest = omega (arith, rest)
    go false rest = omega arith

-- what a position tells
found : (k m n : ℕ) → Some n ≡ cond (ltb k m) (Some k) None → (n ≡ k) × (k < m)
found k m n e = go (ltb k m) refl e
  where
    go : (t : Bool) → ltb k m ≡ t → Some n ≡ cond t (Some k) None → (n ≡ k) × (k < m)
    go true q e = (ap (λ (o : Option ℕ). unwrap_or o 0) e, ltb-true k m q)
    go false q e = absurd (true≢false (ap is_some e))

none_found : (k m : ℕ) → None ≡ cond (ltb k m) (Some k) None → m ≤ k
none_found k m e = go (ltb k m) refl e
  where
    go : (t : Bool) → ltb k m ≡ t → None ≡ cond t (Some k) None → m ≤ k
    go true q e = absurd (true≢false (sym (ap is_some e)))
    go false q e = ltb-false k m q

-- ## The comparison

module _ (a b : List ℕ) where
  pub compared_lengths : (length a ≡ length b → ⊥) → ComparedAs a b (record { same = false; pairs = 0 })
  compared_lengths n =
      record { same = sym (same_length a b n); pairs = sym (passed_over _ _ _ (ne_eqb (length a) (length b) n)) }

  module _ (l : length a ≡ length b) where
    abbrev first : Option ℕ
    first = position unequal (zip (reverse a) (reverse b))

    lengths : length (reverse a) ≡ length (reverse b)
    lengths = length-reverse a ∙ l ∙ sym (length-reverse b)

    parts : Parted (reverse a) (reverse b) (equal (reverse a) (reverse b))
    parts = parted (reverse a) (reverse b) lengths

    zipped : length (zip (reverse a) (reverse b)) ≡ length a
    zipped = zip_length (reverse a) (reverse b) lengths ∙ length-reverse a

    counted : until_unequal (reverse a) (reverse b) ≡ pairs a b
    counted = sym (chosen _ _ _ (eq-eqb (length a) (length b) l))

    pub equal_few : (n : ℕ) → Some n ≡ first → n < length a
    equal_few n e = let f = found (equal (reverse a) (reverse b)) _ n e in omega (arith, f, zipped)

    pub compared_unequal : (n : ℕ) → Some n ≡ first → ComparedAs a b (record { same = false; pairs = n + 1 })
    compared_unequal n e =
        let f = found (equal (reverse a) (reverse b)) _ n e in
        let p = parts.unequal (omega (arith, f, zipped, length-reverse a)) in
        record { same = sym (differ p.1 (same a b) refl); pairs = omega (arith, f, p.0, counted) }
      where
        differ : (reverse a ≡ reverse b → ⊥) → (t : Bool) → same a b ≡ t → t ≡ false
        differ u true q = absurd (u (ap reverse (same_path a b q)))
        differ u false q = refl

    pub compared_equal : None ≡ first → ComparedAs a b (record { same = true; pairs = length a })
    compared_equal e =
        let p = parts.same (omega (arith, none_found (equal (reverse a) (reverse b)) _ e, zipped, length-reverse a)) in
        let s : a ≡ b = sym (reverse-reverse a) ∙ ap reverse p.1 ∙ reverse-reverse b in
        record {
          same = sym (ap (same a) (sym s) ∙ same_self a);
          pairs = omega (arith, p.0, counted, length-reverse a);
        }

-- no more pairs than bytes
pub pairs_most : (a b : List ℕ) → pairs a b ≤ length a
pairs_most a b = go (eqb (length a) (length b))
  where
    go : (t : Bool) → cond t (until_unequal (reverse a) (reverse b)) 0 ≤ length a
    go true = omega (arith, until_most (reverse a) (reverse b), length-reverse a)
    go false = omega arith
