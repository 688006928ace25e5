-- Texts one after the other, and the digits of a number.
use mathlib.Core.Path.{◌≡◌, refl, sym, ap, ◌∙◌, subst}
use mathlib.Core.Bool.{Bool, true, false, cond}
use mathlib.Core.List.{List, [], ◌∷◌, ◌++◌}
use Prim.Native.Nat.{ℕ, zero, suc, ◌+◌, ◌/◌, ◌%◌, ◌^◌, ◌≤◌, ◌<◌}
use native.Mathlib.Nat.{div-lt_iff_lt-mul, pow-suc}
use native.Mathlib.Omega.{arith}
use native.Mathlib.Decide.{dec_le}
use lib.ListN.{length, take, drop, length-append}
use lib.Seq.{sets, set_out, length-sets, sets-eq, take_at}
use lib.Dec.{ltb, eqb}
use borrow.Author.Tests.{lt-ltb, le-ltb}
use Rattle.token_list.specs.Byte.{bytes}
use Rattle.token_list.specs.Check.{END}
use Rattle.token_list.proofs.Stores.{sets_append}
use Rattle.output.specs.Text.{digits, decimal, place_text, refusal_text}
use Rattle.output.specs.Contract.{FAR, further, Put, Printed}

-- ## Texts one after the other

-- a place past the end of a list: nothing is stored there
sets_out : (l : List ℕ) (i : ℕ) (t : List ℕ) → length l ≤ i → sets l i t ≡ l
sets_out l i [] h = refl
sets_out l i (a ∷ t) h = ap (λ (x : List ℕ). sets x (suc i) t) (set_out l i a h) ∙ sets_out l (suc i) t (omega arith)

-- where a place stopped, no list is long enough to tell
sets_further : (l : List ℕ) (i n : ℕ) (t : List ℕ) → length l < FAR → sets l (further i n) t ≡ sets l (i + n) t
sets_further l i n t h = go (dec_le (i + n) FAR)
  where
    go : Dec (i + n ≤ FAR) → sets l (further i n) t ≡ sets l (i + n) t
    go (yes p) = let e : further i n ≡ i + n = omega arith in ap (λ (k : ℕ). sets l k t) e
    go (no p) = sets_out l (further i n) t (omega arith) ∙ sym (sets_out l (i + n) t (omega arith))

pub nothing : (l : List ℕ) (i : ℕ) → length l < FAR → Put l l i i []
nothing l i h = record { next = omega arith; bytes = refl; short = h }

-- the same text by another name
pub retold : {k l s t : List ℕ} {h i : ℕ} → s ≡ t → Put k l h i s → Put k l h i t
retold {k} {l} {s} {t} {h} {i} e p = subst (λ (x : List ℕ). Put k l h i x) e p

pub joined : {k l m s t : List ℕ} {h i j : ℕ} → Put k l h i s → Put l m i j t → Put k m h j (s ++ t)
joined {k} {l} {m} {s} {t} {h} {i} {j} p q =
    let stored : List ℕ = sets k h s in
    let fewer : length stored < FAR = omega (arith, length-sets k h s, p.short) in
    record {
      next = omega (arith, p.next, q.next, length-append s t);
      bytes = q.bytes ∙ ap (λ (x : List ℕ). sets x i t) p.bytes ∙ ap (λ (n : ℕ). sets stored n t) p.next ∙
          sets_further stored h (length s) t fewer ∙ sym (sets_append k h s t);
      short = p.short;
    }

pub kept : {k l s : List ℕ} {h i : ℕ} → Put k l h i s → length l ≡ length k
kept {k} {l} {s} {h} p = ap length p.bytes ∙ length-sets k h s

-- no place goes further than the text
pub at_most : {k l s : List ℕ} {h i : ℕ} → Put k l h i s → i ≤ h + length s
at_most p = omega (arith, p.next)

-- a text at the start of an output, no longer than a place can tell
pub printed : {k l s : List ℕ} {r : ℕ} → Put k l 0 r s → length s ≤ FAR → Printed k l r s
printed p h = record { counted = omega (arith, p.next); bytes = p.bytes }

-- the whole text, where the output has room for it
pub printed_shown : {k l s : List ℕ} {r : ℕ} → Printed k l r s → r ≤ length k → take r l ≡ s
printed_shown {k} {l} {s} {r} p room =
    let rest = drop (0 + length s) k in
    ap (take r) (p.bytes ∙ sets-eq s k 0 (omega (arith, p.counted))) ∙ take_at s rest r (sym p.counted)

pub shown : {k l s : List ℕ} {r : ℕ} → Put k l 0 r s → r ≤ length k → take r l ≡ s
shown p room = printed_shown (printed p (omega (arith, p.next, p.short))) room

-- ## Digits

-- any fuel from the number on gives the same
enough : (f g n : ℕ) → n ≤ f → n ≤ g → digits f n ≡ digits g n
enough zero zero n p q = refl
enough zero (suc g) n p q = let h : n < 10 = omega arith in simp (lt-ltb n 10 h)
enough (suc f) zero n p q = let h : n < 10 = omega arith in simp (lt-ltb n 10 h)
enough (suc f) (suc g) n p q =
    ap (λ (ds : List ℕ). cond (ltb n 10) ((48 + n) ∷ []) (ds ++ (48 + n % 10) ∷ []))
    (enough f g (n / 10) (omega arith) (omega arith))

pub decimal_one : (n : ℕ) → n < 10 → decimal n ≡ (48 + n) ∷ []
unfolding decimal
decimal_one n h = enough n (suc n) n (omega arith) (omega arith) ∙ simp (lt-ltb n 10 h)

pub decimal-more : (n : ℕ) → 10 ≤ n → decimal n ≡ decimal (n / 10) ++ (48 + n % 10) ∷ []
unfolding decimal
decimal-more n h =
    enough n (suc n) n (omega arith) (omega arith)
    ∙ simp (le-ltb n 10 h)
    (ap (λ (ds : List ℕ). ds ++ (48 + n % 10) ∷ []) (enough n (n / 10) (n / 10) (omega arith) (omega arith)))

either : (b : Bool) (x y : List ℕ) (m : ℕ) → length x ≤ m → length y ≤ m → length (cond b x y) ≤ m
either true x y m p q = p
either false x y m p q = q

few : (k f n : ℕ) → n < 10 ^ suc k → length (digits f n) ≤ suc k
few k zero n h = omega arith
few zero (suc f) n h = let small : n < 10 = omega arith in simp (lt-ltb n 10 small) (omega arith)
few (suc k) (suc f) n h =
    let less : n / 10 < 10 ^ suc k =
    (div-lt_iff_lt-mul {k = 10} {x = n} {y = 10 ^ suc k} (omega arith)).1 (rw pow-suc at h) in
    either (ltb n 10) _ _ (suc (suc k)) (omega arith)
    (omega (arith, length-append (digits f (n / 10)) ((48 + n % 10) ∷ []), few k f (n / 10) less))

pub decimal-within : (k n : ℕ) → n < 10 ^ suc k → length (decimal n) ≤ suc k
unfolding decimal
decimal-within k n h = few k n n h

pub decimal_few : (n : ℕ) → n < 2 ^ 64 → length (decimal n) ≤ 20
decimal_few n h = decimal-within 19 n (omega arith)

-- ## Refusals

pub place_few : (p : ℕ) → p < 2 ^ 64 → length (place_text p) ≤ 20
unfolding place_text
place_few p h = either (eqb p END) (bytes "-") (decimal p) 20 (omega arith) (decimal_few p h)

pub refusal_few : (n p : ℕ) → n < 2 ^ 64 → p < 2 ^ 64 → length (refusal_text n p) ≤ 64
unfolding refusal_text
refusal_few n p h k = simp length-append (omega (arith, decimal_few n h, place_few p k))
