-- The cells that hold the kinds of open groups.
use mathlib.Core.Path.{◌≡◌, refl, ap, ◌∙◌, sym, subst}
use mathlib.Core.Bool.{Bool, true, false, cond, ◌||◌, false≢true}
use mathlib.Core.List.{List, [], ◌∷◌}
use Prim.Native.Nat.{ℕ, zero, suc, ◌+◌, ◌-◌, ◌*◌, ◌/◌, ◌%◌, ◌≤◌, ◌<◌, min}
use native.Mathlib.Omega.{arith}
use borrow.Author.Tests.{eqb-true, eqb-false, ltb-true, ltb-false}
use lib.Dec.{eqb, ltb}
use lib.ListN.{length, get_or, set, drop, length-set, get_or-eq_default}
use lib.Seq.{get_or-set_same, get_or-set_other, set-get_or, set-set}
use Rattle.token_list.specs.Byte.{PARENTHESIS, BRACKET, BRACE}
use Rattle.source.specs.Bytes.{opens}
use Rattle.source.specs.Brackets.{Open}
use Rattle.std.specs.Prelude.{Some, None}
use Rattle.source.specs.Stack.{PER_CELL, bits_of, delimiter_of, kinds, capacity, delimiters_of, Held, Popped}

-- ## Two bits for each kind

module _ (d : ℕ) where
  -- one of the three
  by_cases : (P : ℕ → Type 0) → P PARENTHESIS → P BRACKET → P BRACE → opens d ≡ true → P d
  unfolding opens
  by_cases P p q r h = go (eqb d PARENTHESIS) (eqb d BRACKET) (eqb d BRACE) refl refl refl h
    where
      of : (e : ℕ) → eqb d e ≡ true → P e → P d
      of e t x = subst P (sym (eqb-true d e t)) x

      go : (a b c : Bool) → eqb d PARENTHESIS ≡ a → eqb d BRACKET ≡ b → eqb d BRACE ≡ c → (a || (b || (c || false)))
          ≡ true → P d
      go true b c t u v h = of PARENTHESIS t p
      go false true c t u v h = of BRACKET u q
      go false false true t u v h = of BRACE v r
      go false false false t u v h = absurd (false≢true h)

pub bits_few : (d : ℕ) → bits_of d ≤ 2
bits_few d = go (eqb d PARENTHESIS) (eqb d BRACKET)
  where
    go : (a b : Bool) → cond a 0 (cond b 1 2) ≤ 2
    go true b = omega arith
    go false true = omega arith
    go false false = omega arith

bits_back : (d : ℕ) → opens d ≡ true → delimiter_of (bits_of d) ≡ d
bits_back d h = by_cases d (λ x. delimiter_of (bits_of x) ≡ x) refl refl refl h

-- no delimiter is 0
delimiter_some : (b : ℕ) → delimiter_of b ≡ 0 → ⊥
delimiter_some b = go (eqb b 0) (eqb b 1)
  where
    go : (x y : Bool) → cond x PARENTHESIS (cond y BRACKET BRACE) ≡ 0 → ⊥
    go true y e = absurd (omega (arith, e))
    go false true e = absurd (omega (arith, e))
    go false false e = absurd (omega (arith, e))

-- ## How many kinds a cell has room for

capacity_next : (n : ℕ) → n ≤ 3 → capacity (n + 1) ≡ 4 * capacity n
capacity_next zero h = refl
capacity_next (suc zero) h = refl
capacity_next (suc (suc zero)) h = refl
capacity_next (suc (suc (suc zero))) h = refl
capacity_next (suc (suc (suc (suc n)))) h = absurd (omega (arith, h))

capacity_full : (m n : ℕ) → 4 ≤ m → 4 ≤ n → capacity m ≡ capacity n
capacity_full (suc (suc (suc (suc m)))) (suc (suc (suc (suc n)))) h k = refl
capacity_full zero n h k = absurd (omega (arith, h))
capacity_full (suc zero) n h k = absurd (omega (arith, h))
capacity_full (suc (suc zero)) n h k = absurd (omega (arith, h))
capacity_full (suc (suc (suc zero))) n h k = absurd (omega (arith, h))
capacity_full (suc (suc (suc (suc m)))) zero h k = absurd (omega (arith, k))
capacity_full (suc (suc (suc (suc m)))) (suc zero) h k = absurd (omega (arith, k))
capacity_full (suc (suc (suc (suc m)))) (suc (suc zero)) h k = absurd (omega (arith, k))
capacity_full (suc (suc (suc (suc m)))) (suc (suc (suc zero))) h k = absurd (omega (arith, k))

capacity_some : (n : ℕ) → 0 < capacity n
capacity_some zero = omega arith
capacity_some (suc zero) = omega arith
capacity_some (suc (suc zero)) = omega arith
capacity_some (suc (suc (suc zero))) = omega arith
capacity_some (suc (suc (suc (suc n)))) = omega arith

-- ## Nothing held

pub held_none : (cells : List ℕ) → ((c : ℕ) → get_or cells c 0 ≡ 0) → Held cells []
held_none cells h =
    let none : min 0 (PER_CELL * length cells) ≡ 0 = omega arith in
    record {
      same = ap (kinds cells) none ∙ sym (delimiters_none (0 - PER_CELL * length cells));
      room = λ c. omega (arith, h c, capacity_some (0 - PER_CELL * c));
    }
  where
    delimiters_none : (n : ℕ) → delimiters_of (drop n []) ≡ []
    delimiters_none zero = refl
    delimiters_none (suc n) = refl

-- ## One more, and one less

-- another cell than the last one has room for the same
other_room : (depth x : ℕ) → (x ≡ depth / 4 → ⊥) → capacity (depth + 1 - 4 * x) ≡ capacity (depth - 4 * x)
other_room depth x h = go (ltb x (depth / 4)) refl
  where
    go : (b : Bool) → ltb x (depth / 4) ≡ b → capacity (depth + 1 - 4 * x) ≡ capacity (depth - 4 * x)
    go true q =
        let l = ltb-true x (depth / 4) q in
        capacity_full (depth + 1 - 4 * x) (depth - 4 * x) (omega (arith, l)) (omega (arith, l))
    go false q =
        let l = ltb-false x (depth / 4) q in
        let more : depth / 4 < x = below l in
        let n : depth + 1 - 4 * x ≡ depth - 4 * x = omega (arith, more) in ap capacity n
      where
        below : depth / 4 ≤ x → depth / 4 < x
        below l = less (eqb x (depth / 4)) refl
          where
            less : (b : Bool) → eqb x (depth / 4) ≡ b → depth / 4 < x
            less true e = absurd (h (eqb-true x (depth / 4) e))
            less false e = omega (arith, l, eqb-false x (depth / 4) e)

module _ (cells : List ℕ) (o : Open) (os : List Open) where
  abbrev depth : ℕ
  depth = length os

  abbrev cell : ℕ
  cell = depth / 4

  abbrev kept : ℕ
  kept = get_or cells cell 0

  -- where there is a cell for it
  module _ (l : cell < length cells) where
    inside-same : Held cells os → kinds cells depth ≡ delimiters_of os
    inside-same h =
        let m : min depth (PER_CELL * length cells) ≡ depth = omega (arith, l) in
        let n : depth - PER_CELL * length cells ≡ 0 = omega (arith, l) in
        sym (ap (kinds cells) m) ∙ h.same ∙ ap (λ (k : ℕ). delimiters_of (drop k os)) n

    same-inside : (xs : List ℕ) (ps : List Open) → length ps ≤ depth + 1 → length xs ≡ length cells
        → kinds xs (length ps) ≡ delimiters_of ps
        → kinds xs (min (length ps) (PER_CELL * length xs)) ≡ delimiters_of (drop (length ps - PER_CELL * length xs) ps)
    same-inside xs ps k e q =
        let m : min (length ps) (PER_CELL * length xs) ≡ length ps = omega (arith, l, k, e) in
        let n : length ps - PER_CELL * length xs ≡ 0 = omega (arith, l, k, e) in
        ap (kinds xs) m ∙ q ∙ sym (ap (λ (k : ℕ). delimiters_of (drop k ps)) n)

    pub pushed_inside : Held cells os → opens o.delimiter ≡ true
        → Held (set cells cell (kept * 4 + bits_of o.delimiter)) (o ∷ os)
    pushed_inside h q =
        let d = o.delimiter in
        let w = kept * 4 + bits_of d in
        let cells₁ = set cells cell w in
        let few = bits_few d in
        let stored = get_or-set_same cells cell w 0 l in
        let low : w % 4 ≡ bits_of d = omega (arith, few) in
        let high : w / 4 ≡ kept = omega (arith, few) in
        let first = ap (λ (n : ℕ). delimiter_of (n % 4)) stored ∙ ap delimiter_of low ∙ bits_back d q in
        let back = ap (λ (n : ℕ). set cells₁ cell (n / 4)) stored ∙ ap (set cells₁ cell) high
        ∙ set-set cells cell w kept ∙ set-get_or cells cell 0 in
        let more = ap (λ (xs : List ℕ). kinds xs depth) back ∙ inside-same h in
        record {
          same = same-inside cells₁ (o ∷ os) (omega arith) (length-set cells cell w) (λ j. first j ∷ more j);
          room = λ x. room x (eqb x cell) refl;
        }
      where
        w₀ : ℕ
        w₀ = kept * 4 + bits_of o.delimiter

        room : (x : ℕ) (b : Bool) → eqb x cell ≡ b → get_or (set cells cell w₀) x 0 < capacity (length
            (o ∷ os) - PER_CELL * x)
        room x true e =
            let same = eqb-true x cell e in
            let next = capacity_next (depth - 4 * cell) (omega arith) in
            let n : depth - 4 * cell + 1 ≡ length (o ∷ os) - PER_CELL * x = omega (arith, same) in
            let value = ap (λ (k : ℕ). get_or (set cells cell w₀) k 0) same ∙ get_or-set_same cells cell w₀ 0 l in
            omega (arith, value, h.room cell, next, ap capacity n, bits_few o.delimiter)
        room x false e =
            let other = eqb-false x cell e in
            let n : depth + 1 - 4 * x ≡ length (o ∷ os) - PER_CELL * x = omega arith in
            omega (arith, get_or-set_other cells cell x w₀ 0 other, h.room x, other_room depth x other, ap capacity n)

    pub popped_inside : Held cells (o ∷ os) → Popped (set cells cell (kept / 4)) o os (Some (delimiter_of (kept % 4)))
    popped_inside h =
        let m : suc depth ≡ min (length (o ∷ os)) (PER_CELL * length cells) = omega (arith, l) in
        let n : length (o ∷ os) - PER_CELL * length cells ≡ 0 = omega (arith, l) in
        let whole : kinds cells (suc depth) ≡ o.delimiter ∷ delimiters_of os =
        ap (kinds cells) m ∙ h.same ∙ ap (λ (k : ℕ). delimiters_of (drop k (o ∷ os))) n in
        let first : delimiter_of (kept % 4) ≡ o.delimiter = cc in
        let more : kinds (set cells cell (kept / 4)) depth ≡ delimiters_of os = cc in
        record {
          held = record {
            same = same-inside (set cells cell (kept / 4)) os (omega arith) (length-set cells cell (kept / 4)) more;
            room = λ x. room x (eqb x cell) refl;
          };
          told = first;
        }
      where
        room : (x : ℕ) (b : Bool) → eqb x cell ≡ b
            → get_or (set cells cell (kept / 4)) x 0 < capacity (depth - PER_CELL * x)
        room x true e =
            let same = eqb-true x cell e in
            let next = capacity_next (depth - 4 * cell) (omega arith) in
            let n : depth - 4 * cell + 1 ≡ length (o ∷ os) - PER_CELL * cell = omega arith in
            let k : depth - 4 * cell ≡ depth - PER_CELL * x = omega (arith, same) in
            let value = ap (λ (k : ℕ). get_or (set cells cell (kept / 4)) k 0) same
            ∙ get_or-set_same cells cell (kept / 4) 0 l in
            omega (arith, value, h.room cell, next, ap capacity n, ap capacity k)
        room x false e =
            let other = eqb-false x cell e in
            let n : depth + 1 - 4 * x ≡ length (o ∷ os) - PER_CELL * x = omega arith in
            omega (
              arith,
              get_or-set_other cells cell x
                  (kept / 4) 0 other,
              h.room x,
              other_room depth x other,
              ap capacity n,
            )

  -- where there is none
  module _ (l : length cells ≤ cell) where
    -- a cell within them is full, and past them there is nothing
    room_past : (m n : ℕ) → depth ≤ m → depth ≤ n → (x : ℕ) → get_or cells x 0 < capacity (m - PER_CELL * x)
        → get_or cells x 0 < capacity (n - PER_CELL * x)
    room_past m n j k x h = go (ltb x (length cells)) refl
      where
        go : (b : Bool) → ltb x (length cells) ≡ b → get_or cells x 0 < capacity (n - PER_CELL * x)
        go true q =
            let w = ltb-true x (length cells) q in
            omega (
              arith,
              h,
              capacity_full (m - PER_CELL * x) (n - PER_CELL * x) (omega (arith, w, l, j)) (omega
                  (arith, w, l, k)),
            )
        go false q =
            let none = get_or-eq_default cells 0 {n = x} (ltb-false x (length cells) q) in
            omega (arith, none, capacity_some (n - PER_CELL * x))

    all_full : min (length (o ∷ os)) (PER_CELL * length cells) ≡ min depth (PER_CELL * length cells)
    all_full = omega (arith, l)

    deeper : length (o ∷ os) - PER_CELL * length cells ≡ suc (depth - PER_CELL * length cells)
    deeper = omega (arith, l)

    pub pushed_outside : Held cells os → Held cells (o ∷ os)
    pushed_outside h =
        record {
          same = ap (kinds cells) all_full ∙ h.same ∙ sym (ap (λ (n : ℕ). delimiters_of (drop n (o ∷ os))) deeper);
          room = λ x. room_past depth (length (o ∷ os)) (omega arith) (omega arith) x (h.room x);
        }

    pub popped_outside : Held cells (o ∷ os) → Popped cells o os None
    popped_outside h =
        record {
          held = record {
            same = sym (ap (kinds cells) all_full) ∙ h.same ∙ ap (λ (n : ℕ). delimiters_of (drop n (o ∷ os))) deeper;
            room = λ x. room_past (length (o ∷ os)) depth (omega arith) (omega arith) x (h.room x);
          };
          told = tt;
        }

-- ## By the depth that the code counts

module _ {cells : List ℕ} {o : Open} {os : List Open} {depth : ℕ} (e : length os ≡ depth) where
  pub pushed : {b : ℕ} → depth / 4 < length cells → opens o.delimiter ≡ true → b ≡ bits_of o.delimiter
      → Held cells os
      → Held (set cells (depth / 4) (get_or cells (depth / 4) 0 * 4 + b)) (o ∷ os)
  pushed {b} l q c h =
      let inside = pushed_inside cells o os (omega (arith, ap (λ (n : ℕ). n / 4) e, l)) h q in
      subst (λ (n : ℕ). Held (set cells (n / 4) (get_or cells (n / 4) 0 * 4 + b)) (o ∷ os)) e
      (subst (λ (x : ℕ). Held (set cells (length os / 4) (get_or cells (length os / 4) 0 * 4 + x)) (o ∷ os))
      (sym c) inside)

  pub popped : {r : ℕ} → depth / 4 < length cells → r ≡ delimiter_of (get_or cells (depth / 4) 0 % 4)
      → Held cells (o ∷ os)
      → Popped (set cells (depth / 4) (get_or cells (depth / 4) 0 / 4)) o os (Some r)
  popped {r} l c h =
      let inside = popped_inside cells o os (omega (arith, ap (λ (n : ℕ). n / 4) e, l)) h in
      let out : ℕ → List ℕ = λ n. set cells (n / 4) (get_or cells (n / 4) 0 / 4) in
      subst (λ (x : ℕ). Popped (out depth) o os (Some x)) (sym c)
      (subst (λ (n : ℕ). Popped (out n) o os (Some (delimiter_of (get_or cells (n / 4) 0 % 4)))) e inside)

  pub pushed_past : length cells ≤ depth / 4 → Held cells os → Held cells (o ∷ os)
  pushed_past l h = pushed_outside cells o os (omega (arith, ap (λ (n : ℕ). n / 4) e, l)) h

  pub popped_past : length cells ≤ depth / 4 → Held cells (o ∷ os) → Popped cells o os None
  popped_past l h = popped_outside cells o os (omega (arith, ap (λ (n : ℕ). n / 4) e, l)) h
