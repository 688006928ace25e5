-- What a production takes of a text, as the bytes that it takes and those that follow.
use mathlib.Core.Path.{◌≡◌, refl, ap, ◌∙◌, sym, subst}
use mathlib.Core.Bool.{Bool, true, false, cond, not, ◌||◌, false≢true}
use mathlib.Core.List.{List, [], ◌∷◌, ◌++◌, append_assoc}
use Prim.Native.Nat.{ℕ, suc, ◌+◌}
use native.Mathlib.Omega.{arith}
use lib.Dec.{eqb}
use borrow.Author.Tests.{eqb-true}
use lib.ListN.{length, get_or, length-append}
use Rattle.token_list.specs.Text.{all, member}
use Rattle.token_list.proofs.Texts.{and_parts, and_both, chosen, passed_over}
use Rattle.source.specs.Taken.{Taken, takes, fault, after, run}
use Rattle.source.specs.Division.{begins, Longest}

pub data Cut (P : List ℕ → List ℕ → Type 0) : List ℕ → Taken → Type 0 where
  cut : (p r : List ℕ) {n : ℕ} → P p r → n ≡ length p → Cut P (p ++ r) (takes n)
  none : {s : List ℕ} → Cut P s fault

module _ {P : List ℕ → List ℕ → Type 0} {s : List ℕ} where
  pub choice : {t u : Taken} (b : Bool) → (b ≡ true → Cut P s t) → (b ≡ false → Cut P s u) → Cut P s (cond b t u)
  choice true f k = f refl
  choice false f k = k refl

  pub cut_as : {r : List ℕ} {t : Taken} → r ≡ s → Cut P r t → Cut P s t
  cut_as {t = t} e h = subst (λ (r : List ℕ). Cut P r t) e h

-- some bytes and then a production
pub before : {P Q : List ℕ → List ℕ → Type 0} {s : List ℕ} {t : Taken} (a : List ℕ) (n : ℕ) → n ≡ length a → Cut P s t
    → ((p r : List ℕ) → P p r → Q (a ++ p) r) → Cut Q (a ++ s) (after n t)
before {Q = Q} a n e (cut p r {n = m} h q) k =
    let whole : n + m ≡ length (a ++ p) = omega (arith, e, q, length-append a p) in
    cut_as (append_assoc a p r) (cut (a ++ p) r (k p r h) whole)
before a n e none k = none

-- the same on the way back
pub after_takes : {t : Taken} (k n m : ℕ) → t ≡ takes n → k + n ≡ m → after k t ≡ takes m
after_takes k n m e q = ap (after k) e ∙ ap takes q

pub after_none : (t : Taken) → after 0 t ≡ t
after_none (takes n) = let e : 0 + n ≡ n = omega arith in ap takes e
after_none fault = refl

pub after-after : (k n m : ℕ) (t : Taken) → k + n ≡ m → after k (after n t) ≡ after m t
after-after k n m (takes i) e = let q : k + (n + i) ≡ m + i = omega (arith, e) in ap takes q
after-after k n m fault e = refl

-- the first byte by what it is known to be
pub at_byte : {P : List ℕ → List ℕ → Type 0} {s : List ℕ} {t : Taken} {b : ℕ} (c : ℕ) → eqb b c ≡ true
    → Cut P (c ∷ s) t → Cut P (b ∷ s) t
at_byte {s = s} {b = b} c e h = cut_as (ap (λ (x : ℕ). x ∷ s) (sym (eqb-true b c e))) h

pub at_second : {P : List ℕ → List ℕ → Type 0} {s : List ℕ} {t : Taken} {a b : ℕ} (c : ℕ) → eqb b c ≡ true
    → Cut P (a ∷ c ∷ s) t → Cut P (a ∷ b ∷ s) t
at_second {s = s} {a = a} {b = b} c e h = cut_as (ap (λ (x : ℕ). a ∷ x ∷ s) (sym (eqb-true b c e))) h

pub cut_map : {P Q : List ℕ → List ℕ → Type 0} {s : List ℕ} {t : Taken} → Cut P s t
    → ((p r : List ℕ) → P p r → Q p r) → Cut Q s t
cut_map (cut p r h q) k = cut p r (k p r h) q
cut_map none k = none

-- ## Tests

pub or_parts : (a b : Bool) → (a || b) ≡ false → (a ≡ false) × (b ≡ false)
or_parts true b e = absurd (false≢true (sym e))
or_parts false b e = (refl, e)

pub or_none : {a b : Bool} → a ≡ false → b ≡ false → (a || b) ≡ false
or_none e f = rw (e, f)

pub begins-first : (p : ℕ → Bool) → p 0 ≡ false → (s : List ℕ) → p (get_or s 0 0) ≡ begins p s
begins-first p e [] = e
begins-first p e (b ∷ s) = refl

pub first_behind : (a s : List ℕ) → get_or (a ++ s) (length a) 0 ≡ get_or s 0 0
first_behind [] s = refl
first_behind (b ∷ a) s = first_behind a s

-- a byte that passes a test is none that does not
pub apart : (p : ℕ → Bool) (b c : ℕ) → p b ≡ true → p c ≡ false → eqb b c ≡ false
apart p b c e f = go (eqb b c) refl
  where
    go : (t : Bool) → eqb b c ≡ t → t ≡ false
    go true q = absurd (false≢true (sym f ∙ ap p (sym (eqb-true b c q)) ∙ e))
    go false q = refl

-- one of these bytes, all of which fail a test
pub member_fails : (p : ℕ → Bool) (b : ℕ) (xs : List ℕ) → member b xs ≡ true → all (λ x. not (p x)) xs ≡ true
    → p b ≡ false
member_fails p b [] e f = absurd (false≢true e)
member_fails p b (x ∷ xs) e f =
    let g = and_parts _ _ f in go (eqb b x) refl (p x) refl e g.0 (λ m. member_fails p b xs m g.1)
  where
    go : (t : Bool) → eqb b x ≡ t → (u : Bool) → p x ≡ u → (t || member b xs) ≡ true → not u ≡ true
        → (member b xs ≡ true → p b ≡ false) → p b ≡ false
    go true q true w e f k = absurd (false≢true f)
    go true q false w e f k = ap p (eqb-true b x q) ∙ w
    go false q u w e f k = k e

pub member-none : (p : ℕ → Bool) (b : ℕ) (xs : List ℕ) → p b ≡ true → all (λ x. not (p x)) xs ≡ true
    → member b xs ≡ false
member-none p b xs e f = go (member b xs) refl
  where
    go : (t : Bool) → member b xs ≡ t → t ≡ false
    go true q = absurd (false≢true (sym (member_fails p b xs q f) ∙ e))
    go false q = refl

-- ## Runs

pub data Ran (p : ℕ → Bool) : List ℕ → ℕ → Type 0 where
  ran : (a r : List ℕ) {n : ℕ} → Longest p a r → n ≡ length a → Ran p (a ++ r) n

pub run_sound : (p : ℕ → Bool) (s : List ℕ) → Ran p s (run p s)
run_sound p [] = ran [] [] (record { each = refl; ended = refl }) refl
run_sound p (b ∷ s) = go (p b) refl (run_sound p s)
  where
    go : (t : Bool) → p b ≡ t → {s : List ℕ} {n : ℕ} → Ran p s n → Ran p (b ∷ s) (cond t (1 + n) 0)
    go true e {n = n} (ran a r h q) =
        let whole : 1 + n ≡ length (b ∷ a) = omega (arith, q) in
        ran (b ∷ a) r (record { each = and_both _ _ e h.each; ended = h.ended }) whole
    go false e {s} h = ran [] (b ∷ s) (record { each = refl; ended = e }) refl

pub run_complete : {p : ℕ → Bool} {a r : List ℕ} → Longest p a r → run p (a ++ r) ≡ length a
run_complete {p} {a} {r} h = go a r h.each h.ended
  where
    go : (a r : List ℕ) → all p a ≡ true → begins p r ≡ false → run p (a ++ r) ≡ length a
    go [] [] e f = refl
    go [] (b ∷ r) e f = passed_over _ _ _ f
    go (b ∷ a) r e f =
        let h = and_parts _ _ e in
        let rest = go a r h.1 f in
        let whole : 1 + run p (a ++ r) ≡ suc (length a) = omega (arith, rest) in
        chosen (p b) (1 + run p (a ++ r)) 0 h.0 ∙ whole
