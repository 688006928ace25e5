-- The walk over the pieces of a text: the groups that are open, and the innermost of them.
use mathlib.Core.Path.{◌≡◌, refl, ap, ◌∙◌, sym, subst}
use mathlib.Core.Bool.{Bool, true, false}
use mathlib.Core.List.{List, [], ◌∷◌}
use Prim.Native.Nat.{ℕ, suc, ◌+◌, ◌-◌, ◌≤◌, ◌<◌}
use native.Mathlib.Omega.{arith}
use borrow.Author.Tests.{eqb-true, eqb-false, eq-eqb, ne_eqb}
use lib.Dec.{eqb}
use lib.ListN.{length, get_or, drop}
use Rattle.source.specs.Lex.{stops, lex}
use Rattle.token_list.specs.Text.{closer}
use Rattle.token_list.proofs.Texts.{chosen, passed_over}
use Rattle.source.specs.Brackets.{Open, sound, faulty, brackets}
use Rattle.source.specs.Stack.{rest, open_at, stack_to, Passing, Opening, Closing, Within, InnermostOf, top}
use Rattle.source.specs.Stack.{InnermostAt, Held, Popped, DelimiterAt, ReachedBy, Reached, TurnedAs, turned}
use Rattle.source.specs.Stack.{fault, Told}
use Rattle.source.specs.Bytes.{blank}
use Rattle.source.specs.Contract.{RunEnd}
use Rattle.std.specs.Prelude.{Option, Some, None}
use Rattle.source.proofs.Lexes.{rest_all, rest-none, rest-blank}
use Rattle.source.proofs.Stacks.{stack_here}
use Rattle.source.proofs.Cells.{held_none}

-- ## The innermost group at u, where `depth` are open

-- up to i `count` groups are open; where they are as many, `found` is the last that made them so many
pub record SoughtBy (s : List ℕ) (u depth i count found : ℕ) (os : List Open) : Type 0 where
  pub low : count ≤ i
  pub stack : stack_to u [] (lex s) ≡ stack_to u os (rest s i)
  pub counted : length os ≡ count
  pub innermost : depth ≤ count → InnermostOf s found (drop (count - depth) os)

abbrev pub Sought : List ℕ → ℕ → ℕ → ℕ → ℕ → ℕ → Type 0
Sought s u depth i count found = (os : List Open) × SoughtBy s u depth i count found os

module _ {s : List ℕ} {u depth : ℕ} (some : 0 < depth) where
  pub sought-start : {found : ℕ} → Sought s u depth 0 0 found
  sought-start = (
    [],
    record {
      low = omega arith;
      stack = ap (stack_to u []) (rest_all s);
      counted = refl;
      innermost = λ h. absurd (omega (arith, h, some));
    },
  )

  module _ {i e count found : ℕ} (l : i < u) (w : Within s i e) where
    pub sought_passes : Passing s i e → Sought s u depth i count found → Sought s u depth e count found
    sought_passes p (os, h) = (
      os,
      record {
        low = omega (arith, h.low, w.forth);
        stack = h.stack ∙ p.stack u os l;
        counted = h.counted;
        innermost = h.innermost;
      },
    )

    pub sought-opens : {r : ℕ} → Opening s i e
        → ((count + 1 ≡ depth → r ≡ i) × ((count + 1 ≡ depth → ⊥) → r ≡ found))
        → Sought s u depth i count found
        → Sought s u depth e (count + 1) r
    sought-opens {r} p latest (os, h) = (
      open_at s i ∷ os,
      record {
        low = omega (arith, h.low, w.forth);
        stack = h.stack ∙ p.stack u os l;
        counted = omega (arith, h.counted);
        innermost = λ k. last (eqb (count + 1) depth) refl k;
      },
    )
      where
        last : (b : Bool) → eqb (count + 1) depth ≡ b → depth ≤ count + 1
            → InnermostOf s r (drop (count + 1 - depth) (open_at s i ∷ os))
        last true q k =
            let same = eqb-true (count + 1) depth q in
            let here = latest.0 same in
            let n : 0 ≡ count + 1 - depth = omega (arith, same) in
            let stands = ap (λ (j : ℕ). get_or s j 0) here in
            subst (λ (m : ℕ). InnermostOf s r (drop m (open_at s i ∷ os))) n
            (top here (omega (arith, here, w.forth, w.within)) stands)
        last false q k =
            let other = eqb-false (count + 1) depth q in
            let n : suc (count - depth) ≡ count + 1 - depth = omega (arith, k, other) in
            let before = h.innermost (omega (arith, k, other)) in
            subst (λ (m : ℕ). InnermostOf s r (drop m (open_at s i ∷ os))) n
            (subst (λ (x : ℕ). InnermostOf s x (drop (count - depth) os)) (sym (latest.1 other)) before)

    -- a close without its open changes nothing
    pub sought-closes : Closing s i e → Sought s u depth i count found → Sought s u depth e (count - 1) found
    sought-closes p ([], h) = (
      [],
      record {
        low = omega (arith, h.low, w.forth);
        stack = h.stack ∙ p.stack u [] l;
        counted = omega (arith, h.counted);
        innermost = λ k. absurd (omega (arith, k, some, h.counted));
      },
    )
    sought-closes p (o ∷ os, h) = (
      os,
      record {
        low = omega (arith, h.low, w.forth);
        stack = h.stack ∙ p.stack u (o ∷ os) l;
        counted = omega (arith, h.counted);
        innermost = λ k.
            let n : count - depth ≡ suc (count - 1 - depth) = omega (arith, k, some, h.counted) in
            subst (λ (m : ℕ). InnermostOf s found (drop m (o ∷ os))) n (h.innermost (omega (arith, k)));
      },
    )

  module _ {i count found : ℕ} (all : length (stack_to u [] (lex s)) ≡ depth) where
    ended : (os : List Open) → SoughtBy s u depth i count found os → stack_to u os (rest s i) ≡ os
        → InnermostAt s u found
    ended os h q =
        let same = h.stack ∙ q in
        let n : count - depth ≡ 0 = omega (arith, h.counted, ap length same, all) in
        let last = h.innermost (omega (arith, h.counted, ap length same, all)) in
        subst (InnermostOf s found) (sym same) (subst (λ (m : ℕ). InnermostOf s found (drop m os)) n last)

    pub sought_done : u ≤ i → Sought s u depth i count found → InnermostAt s u found
    sought_done l (os, h) = ended os h (stack_here s u i os l)

    pub sought_fault : rest s i ≡ stops i → Sought s u depth i count found → InnermostAt s u found
    sought_fault q (os, h) = ended os h (ap (stack_to u os) q)

-- ## The whole walk

pub reached_start : (s cells : List ℕ) → ((c : ℕ) → get_or cells c 0 ≡ 0) → Reached s cells 0 0
reached_start s cells h = (
  [],
  record {
    low = omega arith;
    brackets = ap (brackets []) (rest_all s);
    stack = λ u l. ap (stack_to u []) (rest_all s);
    count = refl;
    held = held_none cells h;
  },
)

module _ {s cells : List ℕ} {i depth : ℕ} where
  pub reached_passes : {e : ℕ} → Within s i e → Passing s i e → Reached s cells i depth → Reached s cells e depth
  reached_passes w p (os, h) = (
    os,
    record {
      low = omega (arith, h.low, w.forth);
      brackets = h.brackets ∙ p.brackets os;
      stack = λ u l. h.stack u (omega (arith, l, w.forth)) ∙ p.stack u os (omega (arith, l, w.forth));
      count = h.count;
      held = h.held;
    },
  )

  pub reached_opens : {cells₁ : List ℕ} {e : ℕ} → Within s i e → Opening s i e
      → ((os : List Open) (o : Open) → Held cells os → length os ≡ depth → o.delimiter ≡ get_or s i 0 → Held cells₁
      (o ∷ os))
      → Reached s cells i depth
      → Reached s cells₁ e (depth + 1)
  reached_opens w p push (os, h) = (
    open_at s i ∷ os,
    record {
      low = omega (arith, h.low, w.forth);
      brackets = h.brackets ∙ p.brackets os;
      stack = λ u l. h.stack u (omega (arith, l, w.forth)) ∙ p.stack u os (omega (arith, l, w.forth));
      count = omega (arith, h.count);
      held = push os (open_at s i) h.held h.count refl;
    },
  )

  -- a close where nothing is open
  pub reached_none : {e : ℕ} → Closing s i e → depth ≡ 0 → Reached s cells i depth → brackets [] (lex s) ≡ faulty i
  reached_none p z ([], h) = h.brackets ∙ p.brackets []
  reached_none p z (o ∷ os, h) = absurd (omega (arith, z, h.count))

  -- how many groups are open at i
  pub reached_count : Reached s cells i depth → length (stack_to i [] (lex s)) ≡ depth
  reached_count (os, h) = ap length (h.stack i (omega arith) ∙ stack_here s i i os (omega arith)) ∙ h.count

  module _ {cells₁ : List ℕ} {held : Option ℕ} (d : ℕ) {e : ℕ} (p : Closing s i e) (some : 0 < depth)
      (told : DelimiterAt s i held d)
      (pop : (o : Open) (os : List Open) → Held cells (o ∷ os) → length os ≡ depth - 1 → Popped cells₁ o os held) where
    -- the innermost delimiter is known
    delimiter : {o : Open} {os : List Open} → ReachedBy s cells i depth (o ∷ os) → d ≡ o.delimiter
    delimiter {o} {os} h = go held told (pop o os h.held (omega (arith, h.count))).told
      where
        go : (x : Option ℕ) → DelimiterAt s i x d → Told x o.delimiter → d ≡ o.delimiter
        go (Some y) t k = t ∙ k
        go None t k = t o os (h.stack i (omega arith) ∙ stack_here s i i (o ∷ os) (omega arith))

    pub reached_closes : Within s i e → closer d ≡ get_or s i 0 → Reached s cells i depth
        → Reached s cells₁ e (depth - 1)
    reached_closes w c ([], h) = absurd (omega (arith, some, h.count))
    reached_closes w c (o ∷ os, h) =
        let fits = eq-eqb _ _ (ap closer (sym (delimiter h)) ∙ c) in (
          os,
          record {
            low = omega (arith, h.low, w.forth);
            brackets = h.brackets ∙ p.brackets (o ∷ os) ∙ chosen _ _ _ fits;
            stack = λ u l. h.stack u (omega (arith, l, w.forth)) ∙ p.stack u (o ∷ os) (omega (arith, l, w.forth));
            count = omega (arith, h.count);
            held = (pop o os h.held (omega (arith, h.count))).held;
          },
        )

    pub reached_unmatched : (closer d ≡ get_or s i 0 → ⊥) → Reached s cells i depth → brackets [] (lex s) ≡ faulty i
    reached_unmatched c ([], h) = absurd (omega (arith, some, h.count))
    reached_unmatched c (o ∷ os, h) =
        let other = ne_eqb _ _ (λ q. c (ap closer (delimiter h) ∙ q)) in
        h.brackets ∙ p.brackets (o ∷ os) ∙ passed_over _ _ _ other

  pub reached_fault : rest s i ≡ stops i → Reached s cells i depth → brackets [] (lex s) ≡ faulty i
  reached_fault q (os, h) = h.brackets ∙ ap (brackets os) q ∙ stopped os
    where
      stopped : (ps : List Open) → brackets ps (stops i) ≡ faulty i
      stopped [] = refl
      stopped (x ∷ ps) = refl

  -- ## The text's end

  pub reached_sound : length s ≤ i → depth ≡ 0 → Reached s cells i depth → brackets [] (lex s) ≡ sound
  reached_sound l z ([], h) = h.brackets ∙ ap (brackets []) (rest-none s i l)
  reached_sound l z (o ∷ os, h) = absurd (omega (arith, z, h.count))

  stack_whole : length s ≤ i → (os : List Open) → ReachedBy s cells i depth os → i ≤ length s
      → stack_to (length s) [] (lex s) ≡ os
  stack_whole l os h m = h.stack (length s) m ∙ stack_here s (length s) i os l

  pub reached_whole : length s ≤ i → i ≤ length s → Reached s cells i depth
      → length (stack_to (length s) [] (lex s)) ≡ depth
  reached_whole l m (os, h) = ap length (stack_whole l os h m) ∙ h.count

  pub reached_open : {r : ℕ} → length s ≤ i → i ≤ length s → 0 < depth → InnermostAt s (length s) r
      → Reached s cells i depth
      → brackets [] (lex s) ≡ faulty r
  reached_open l m z t ([], h) = absurd (omega (arith, z, h.count))
  reached_open {r} l m z t (o ∷ os, h) =
      h.brackets ∙ ap (brackets (o ∷ os)) (rest-none s i l)
      ∙ ap faulty (sym (innermost-offset (subst (InnermostOf s r) (stack_whole l (o ∷ os) h m) t)))
    where
      innermost-offset : {x : Open} {xs : List Open} → InnermostOf s r (x ∷ xs) → r ≡ x.offset
      innermost-offset (top q a b) = q

-- ## What is known of the innermost group

module _ {s : List ℕ} {r : ℕ} where
  pub innermost_within : {os : List Open} → InnermostOf s r os → r < length s
  innermost_within (top q a b) = a

  pub innermost_delimiter : {o : Open} {os : List Open} → InnermostOf s r (o ∷ os) → get_or s r 0 ≡ o.delimiter
  innermost_delimiter (top q a b) = b

-- ## What is known of a turn by its variant

module _ {s cells : List ℕ} {i e : ℕ} where
  pub turned_known : {d : ℕ} → TurnedAs s cells i e (Some d) → Within s i e × Reached s cells e d
  turned_known (turned w h) = (w, h)

  pub unturned : TurnedAs s cells i e None → brackets [] (lex s) ≡ faulty i
  unturned (fault h) = h

-- behind whitespace
pub reached_blank : {s cells : List ℕ} {i r depth : ℕ} → RunEnd blank s i r → Reached s cells i depth
    → Reached s cells r depth
reached_blank {s} {r = r} b (os, h) =
    let same = rest-blank b in (
      os,
      record {
        low = omega (arith, h.low, b.told);
        brackets = h.brackets ∙ ap (brackets os) same;
        stack = λ u l. h.stack u (omega (arith, l, b.told)) ∙ ap (stack_to u os) same;
        count = h.count;
        held = h.held;
      },
    )
