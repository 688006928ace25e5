-- Laws on values: the worth of digits, and the text of a negative.
use mathlib.Core.Path.{◌≡◌, refl, ap, ◌∙◌, sym, subst}
use mathlib.Core.Bool.{Bool, true, false, cond}
use mathlib.Core.List.{List, [], ◌∷◌}
use Prim.Native.Nat.{ℕ, zero, suc, ◌+◌, ◌-◌, ◌*◌, ◌≤◌, ◌<◌}
use native.Mathlib.Numerals.{add-one}
use native.Mathlib.Omega.{arith}
use lib.Dec.{leb, eqb}
use lib.ListN.{length, get_or, take, drop, drop_of_length-le}
use lib.Seq.{drop-cons}
use borrow.Author.Tests.{leb-true, le-leb, eq-eqb, ne_eqb}
use Rattle.token_list.specs.Text.{all, digit}
use Rattle.token_list.proofs.Texts.{and_parts, chosen, passed_over}
use Rattle.output.specs.Text.{decimal}
use Rattle.output.proofs.Texts.{decimal-within}
use Rattle.reading.specs.Declaration as declaration
use Rattle.reading.specs.Took.{Point, beyond}
use Rattle.reading.specs.Reading.{variant}
use Rattle.reading.specs.Place.{variant_at}
use Rattle.reading.specs.Token.{negatable, worth, worth_from}
use Rattle.describe.specs.Value.{negative_text, value_at}
use Rattle.describe.specs.Contract.{part}

-- ## Digits

worth_grows : (n : ℕ) (bs : List ℕ) → n ≤ worth_from n bs
worth_grows n [] = omega arith
worth_grows n (b ∷ bs) = omega (arith, worth_grows (n * 10 + (b - 48)) bs)

-- digits that, with n read before them, are worth w
pub record Counting (w n : ℕ) (t : List ℕ) : Type 0 where
  pub digits : all digit t ≡ true
  pub same : worth_from n t ≡ w
  pub few : w ≤ 9223372036854775807

pub counting : (t : List ℕ) → negatable t ≡ true → Counting (worth t) 0 t
unfolding negatable
counting t e = let b = and_parts _ _ e in record { digits = b.0; same = refl; few = leb-true _ _ b.1 }

pub counting_first : {w n b : ℕ} {bs : List ℕ} → Counting w n (b ∷ bs) → (48 ≤ b) × (b ≤ 57) ×
    (n * 10 + (b - 48) ≤ 9223372036854775807) × Counting w (n * 10 + (b - 48)) bs
counting_first {w} {n} {b} {bs} k =
    let d = and_parts _ _ k.digits in (
      leb-true _ _ (and_parts (leb 48 b) (leb b 57) d.0).0,
      leb-true _ _ (and_parts (leb 48 b) (leb b 57) d.0).1,
      omega (arith, k.same, k.few, worth_grows (n * 10 + (b - 48)) bs),
      record { digits = d.1; same = k.same; few = k.few },
    )

pub counting_next : {w n : ℕ} (t : List ℕ) (i : ℕ) → i < length t → Counting w n (drop i t)
    → (48 ≤ get_or t i 0) × (get_or t i 0 ≤ 57) × (n * 10 + (get_or t i 0 - 48) ≤ 9223372036854775807) × Counting w
    (n * 10 + (get_or t i 0 - 48)) (drop (i + 1) t)
counting_next {w} {n} t i h k =
    let next : drop i t ≡ get_or t i 0 ∷ drop (i + 1) t = rw (add-one, drop-cons t i 0) in
    counting_first (subst (Counting w n) next k)

pub counting_end : {w n : ℕ} (t : List ℕ) (i : ℕ) → length t ≤ i → Counting w n (drop i t) → n ≡ w
counting_end {w} {n} t i h k = ap (worth_from n) (sym (drop_of_length-le t {i = i} h)) ∙ k.same

-- ## The text of a negative

pub negative_none : (n : ℕ) → n ≡ 0 → negative_text n ≡ 48 ∷ []
unfolding negative_text
negative_none n e = chosen _ _ _ (eq-eqb n 0 e)

pub negative_some : (n : ℕ) → (n ≡ 0 → ⊥) → negative_text n ≡ 45 ∷ decimal n
unfolding negative_text
negative_some n e = passed_over _ _ _ (ne_eqb n 0 e)

pub decimal_i64 : (n : ℕ) → n ≤ 9223372036854775807 → length (decimal n) ≤ 19
decimal_i64 n h = decimal-within 18 n (omega arith)

pub negative_within : (n : ℕ) → n ≤ 9223372036854775807 → length (negative_text n) ≤ 20
unfolding negative_text
negative_within n h = go (eqb n 0)
  where
    go : (b : Bool) → length (cond b (48 ∷ []) (45 ∷ decimal n)) ≤ 20
    go true = omega arith
    go false = omega (arith, decimal_i64 n h)

pub negative_length : (n : ℕ) → 0 < length (negative_text n)
unfolding negative_text
negative_length n = go (eqb n 0)
  where
    go : (b : Bool) → 0 < length (cond b (48 ∷ []) (45 ∷ decimal n))
    go true = omega arith
    go false = omega arith

-- ## Parts

pub part-front : (n : ℕ) (s : List ℕ) → n ≤ length s → part 0 n s ≡ take n s
part-front n s h = chosen _ _ _ (le-leb n (length s) h)

-- ## Positions

pub value-first : {k : ℕ} {vs ws : List declaration.Variant} {v : declaration.Variant} → k ≡ 0 → vs ≡ v ∷ ws →
    value_at k vs ≡ v.value
value-first {ws = ws} {v = v} e f = λ i. value_at (e i) (f i)

pub value_later : {k : ℕ} {vs ws : List declaration.Variant} {v : declaration.Variant} → (k ≡ 0 → ⊥) → vs ≡ v ∷ ws →
    value_at k vs ≡ value_at (k - 1) ws
value_later {k} {vs} {ws} {v} e f = ap (value_at k) f ∙ go k e
  where
    go : (k : ℕ) → (k ≡ 0 → ⊥) → value_at k (v ∷ ws) ≡ value_at (k - 1) ws
    go zero e = absurd (e refl)
    go (suc k) e = ap (λ (n : ℕ). value_at n ws) (omega arith)

pub variant-first : {k : ℕ} (x : Point) → k ≡ 0 → variant_at k x ≡ x
variant-first x e = ap (λ (k : ℕ). variant_at k x) e

pub variant_later : (k : ℕ) (x y : Point) → (k ≡ 0 → ⊥) → y ≡ beyond variant x → variant_at k x ≡ variant_at (k - 1) y
variant_later zero x y e f = absurd (e refl)
variant_later (suc k) x y e f =
    let n : k ≡ suc k - 1 = omega arith in
    ap (variant_at k) (sym f) ∙ ap (λ (j : ℕ). variant_at j y) n
