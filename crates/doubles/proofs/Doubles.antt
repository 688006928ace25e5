-- What `first_double` means, and what one thing more does to it.
use mathlib.Core.Path.{◌≡◌, refl, sym, ◌∙◌, ap}
use mathlib.Core.Bool.{Bool, true, false, cond, ◌||◌, true≢false}
use mathlib.Core.List.{List, [], ◌∷◌, ◌++◌, map, append-nil}
use Prim.Native.Nat.{ℕ, zero, suc, ◌+◌, ◌<◌}
use native.Mathlib.Omega.{arith}
use borrow.Author.Tests.{leb-true, leb-false}
use lib.Dec.{leb}
use lib.ListN.{length, get_or, length-append, length-map, get_or-append, get_or-map}
use lib.Seq.{append_snoc, get_or_at}
use Rattle.doubles.specs.Double.{Double, none, second, stands, double_from, first_double, Different, Told}
use Rattle.token_list.proofs.Texts.{or_holds}

-- ## One thing more

-- the first double of things, or else what the next one says
abbrev pub or_next : Double → Double → Double
or_next none d = d
or_next (second k) d = second k

next_choice : (b : Bool) (k : ℕ) (d e r : Double) → d ≡ or_next e r
    → cond b (second k) d ≡ or_next (cond b (second k) e) r
next_choice true k d e r q = refl
next_choice false k d e r q = q

module _ {A : Type 0} (same : A → A → Bool) where
  from_more : (before : List A) (k : ℕ) (xs : List A) (x : A) → double_from same before k (xs ++ x ∷ [])
      ≡ or_next (double_from same before k xs) (cond (stands same x (before ++ xs)) (second (k + length xs)) none)
  from_more before k [] x =
      let n : k ≡ k + 0 = omega arith in
      λ i. cond (stands same x (sym (append-nil before) i)) (second (n i)) none
  from_more before k (y ∷ xs) x =
      let n : k + 1 + length xs ≡ k + suc (length xs) = omega arith in
      let next = ap (λ (l : List A). stands same x l) (append_snoc before y xs) in
      let first = double_from same (before ++ y ∷ []) (k + 1) xs in
      let rest = from_more (before ++ y ∷ []) (k + 1) xs x in
      next_choice (stands same y before) k _ first _
      (rest ∙ (λ i. or_next first (cond (next i) (second (n i)) none)))

  pub double_more : (xs : List A) (x : A) → first_double same (xs ++ x ∷ [])
      ≡ or_next (first_double same xs) (cond (stands same x xs) (second (length xs)) none)
  double_more xs x =
      let n : 0 + length xs ≡ length xs = omega arith in
      from_more [] 0 xs x ∙ ap (λ (k : ℕ). or_next (first_double same xs) (cond (stands same x xs) (second k) none)) n

-- ## Where a thing stands

or_second : (a b : Bool) → b ≡ true → (a || b) ≡ true
or_second true b e = refl
or_second false b e = e

module _ {A : Type 0} (same : A → A → Bool) (x d : A) where
  pub stands_at : (xs : List A) (j : ℕ) → j < length xs → same x (get_or xs j d) ≡ true → stands same x xs ≡ true
  stands_at [] j h e = absurd (omega arith)
  stands_at (y ∷ xs) zero h e = or_holds _ _ e
  stands_at (y ∷ xs) (suc j) h e = or_second (same x y) _ (stands_at xs j (omega arith) e)

  pub stands_nowhere : (xs : List A) → ((j : ℕ) → j < length xs → same x (get_or xs j d) ≡ true → ⊥) →
      stands same x xs ≡ false
  stands_nowhere [] n = refl
  stands_nowhere (y ∷ xs) n =
      go (same x y) (n 0 (omega arith)) (stands_nowhere xs (λ j h. n (suc j) (omega arith)))
    where
      go : (b : Bool) → (b ≡ true → ⊥) → stands same x xs ≡ false → (b || stands same x xs) ≡ false
      go true u e = absurd (u refl)
      go false u e = e

  pub stands_found : (xs : List A) → stands same x xs ≡ true →
      ((j : ℕ) × (j < length xs) × (same x (get_or xs j d) ≡ true))
  stands_found [] e = absurd (true≢false (sym e))
  stands_found (y ∷ xs) e = go (same x y) refl (stands_found xs) e
    where
      go : (b : Bool) → same x y ≡ b
          → (stands same x xs ≡ true → ((j : ℕ) × (j < length xs) × (same x (get_or xs j d) ≡ true)))
          → (b || stands same x xs) ≡ true
          → ((j : ℕ) × (j < suc (length xs)) × (same x (get_or (y ∷ xs) j d) ≡ true))
      go true q rest r = (0, omega arith, q)
      go false q rest r = let found = rest r in (suc found.0, omega (arith, found.1), found.2)

pub stands_by : {A B : Type 0} (f : A → B) (same : A → A → Bool) (like : B → B → Bool)
    → ((x y : A) → like (f x) (f y) ≡ same x y) → (x : A) (xs : List A)
    → stands like (f x) (map f xs) ≡ stands same x xs
stands_by f same like h x [] = refl
stands_by f same like h x (y ∷ xs) = let rest = stands_by f same like h x xs in λ i. h x y i || rest i

-- ## What it means

module _ {A B : Type 0} (f : A → B) (same : A → A → Bool) (sound : (x y : A) → same x y ≡ true → f x ≡ f y)
    (complete : (x y : A) → f x ≡ f y → same x y ≡ true) (d : A) where
  -- of all things, k before x, and those after it
  module _ (all before : List A) (k : ℕ) (x : A) (xs : List A) (cut : all ≡ before ++ x ∷ xs) (n : length before ≡ k)
      (different : Different (f d) k (map f all)) where
    in_first : (i : ℕ) → i < k → get_or (map f all) i (f d) ≡ f (get_or before i d)
    in_first i h =
        get_or-map f all i d ∙ ap (λ (l : List A). f (get_or l i d)) cut
        ∙ ap f (get_or-append before (x ∷ xs) d i (omega arith))

    in_middle : get_or (map f all) k (f d) ≡ f x
    in_middle =
        get_or-map f all k d ∙ ap (λ (l : List A). f (get_or l k d)) cut ∙ ap f (get_or_at before x xs d k n)

    told_second : stands same x before ≡ true → Told (f d) (map f all) (second k)
    told_second e =
        let found = stands_found same x d before e in
        let low : found.0 < k = omega (arith, found.1) in
        let equal = in_first found.0 low ∙ sym (in_middle ∙ sound x _ found.2) in
        let long = length-map all f ∙ ap length cut ∙ length-append before (x ∷ xs) in
        (omega (arith, long), different, (found.0, low, equal))

    different_more : stands same x before ≡ false → Different (f d) (k + 1) (map f all)
    different_more e i j h l q = go (leb k j) refl
      where
        last : j ≡ k → ⊥
        last m =
            let low : i < k = omega arith in
            let equal : f x ≡ f (get_or before i d) =
            sym (sym (in_first i low) ∙ q ∙ ap (λ (p : ℕ). get_or (map f all) p (f d)) m ∙ in_middle) in
            true≢false (sym (stands_at same x d before i (omega arith) (complete x _ equal)) ∙ e)

        go : (b : Bool) → leb k j ≡ b → ⊥
        go true r = last (omega (arith, leb-true k j r))
        go false r = different i j h (leb-false k j r) q

    told_choice : (b : Bool) (next : Double) → stands same x before ≡ b
        → (stands same x before ≡ false → Told (f d) (map f all) next) → Told (f d) (map f all) (cond b (second k) next)
    told_choice true next e rest = told_second e
    told_choice false next e rest = rest e

  told_from : (all before : List A) (k : ℕ) (xs : List A) → all ≡ before ++ xs → length before ≡ k →
      Different (f d) k (map f all)
      → Told (f d) (map f all) (double_from same before k xs)
  told_from all before k [] cut n different =
      let long = length-map all f ∙ ap length (cut ∙ append-nil before) in
      λ i j h l. different i j h (omega (arith, long))
  told_from all before k (x ∷ xs) cut n different =
      let seam = cut ∙ sym (append_snoc before x xs) in
      let long : length (before ++ x ∷ []) ≡ k + 1 = omega (arith, length-append before (x ∷ [])) in
      let more = different_more all before k x xs cut n different in
      told_choice all before k x xs cut n different (stands same x before) _ refl
      (λ e. told_from all (before ++ x ∷ []) (k + 1) xs seam long (more e))

  pub double_told : (xs : List A) → Told (f d) (map f xs) (first_double same xs)
  double_told xs = told_from xs [] 0 xs refl refl (λ i j h l. absurd (omega arith))
