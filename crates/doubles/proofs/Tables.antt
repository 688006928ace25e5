-- Laws on the table of keys.
use mathlib.Core.Path.{◌≡◌, refl, sym, ◌∙◌, ap, subst}
use mathlib.Core.Bool.{Bool, true, false, true≢false}
use mathlib.Core.List.{List, [], ◌∷◌, ◌++◌}
use Prim.Native.Nat.{ℕ, ◌+◌, ◌*◌, ◌-◌, ◌%◌, ◌≤◌, ◌<◌}
use native.Mathlib.Nat.{mod-lt}
use native.Mathlib.Omega.{arith}
use borrow.Author.Count.{below_more}
use borrow.Author.Tests.{eq-eqb, eqb-true, eqb-false, leb-true, leb-false}
use lib.Dec.{eqb, leb}
use lib.ListN.{length, get_or, set, take, drop, replicate, length-append, length-set, length-replicate}
use lib.ListN.{get_or-replicate}
use lib.ListN.{get_or-append}
use lib.Seq.{slice, get_or_at, get_or-set_same, get_or-set_other}
use Rattle.token_list.specs.Text.{same}
use Rattle.token_list.proofs.Texts.{and_last, and_parts, drop_of_take}
use Rattle.token_list.proofs.Texts.{same_swap}
use Rattle.doubles.specs.Double.{stands}
use Rattle.doubles.specs.Key.{Key, same_key}
use Rattle.doubles.specs.Contract.{key_of, words_at, key_at, NO_KEY, remainder, Last, Holds, Added}
use Rattle.doubles.specs.declared.key.KeyAt.{KeyAt}
use Rattle.doubles.proofs.Doubles.{stands_at, stands_nowhere}

-- ## The empty table

pub nothing_seen : (s : List ℕ) (n : ℕ) → n < 65536 → Holds s (replicate (4 * n) 0) (replicate n 0) []
nothing_seen s n few =
    let long = length-replicate {A = ℕ} (4 * n) 0 in
    let room = length-replicate {A = ℕ} n 0 in
    record {
      size = omega arith;
      few = omega arith;
      room = omega arith;
      key = λ j l. absurd (omega arith);
      last = λ h l. record {
        low = omega (arith, link h (omega arith));
        none = λ i p q. absurd (omega arith);
        one = λ i e. absurd (omega (arith, link h (omega arith)));
      };
      before = λ j l. absurd (omega arith);
    }
  where
    link : (h : ℕ) → h < n → ◌≡◌ {A = ℕ} (get_or (replicate (4 * n) 0) h 0) 0
    link h l = get_or-replicate (4 * n) h 0 0 (omega arith)

-- ## Whether a key is this one

pub text_told : (s : List ℕ) (k : KeyAt) (y : Key) → k.number ≡ y.number →
    same y.text (take (k.end - k.start) (drop k.start s)) ≡ same_key (key_of s k) y
text_told s k y e =
    let part = drop_of_take k.start k.end s in
    ap (same y.text) (sym part) ∙ same_swap y.text _ ∙ sym (and_last _ _ (eq-eqb _ _ e))

-- ## Whether a key stands in the table

-- link leads to the last key that may be x
pub record Looking (room : ℕ) (ks : List Key) (x : Key) (link : ℕ) : Type 0 where
  pub low : link ≤ length ks
  pub none : (i : ℕ) → link ≤ i → i < length ks → same_key x (get_or ks i NO_KEY) ≡ true → ⊥
  pub one : (i : ℕ) → link ≡ i + 1 → remainder room ks i ≡ x.number % room

module _ {s words numbers : List ℕ} {ks : List Key} (x : Key) (t : Holds s words numbers ks) where
  same-remainder : (i : ℕ) → same_key x (get_or ks i NO_KEY) ≡ true →
      remainder (length numbers) ks i ≡ x.number % length numbers
  same-remainder i e =
      let q = eqb-true x.number (get_or ks i NO_KEY).number (and_parts _ _ e).0 in
      ap (λ (n : ℕ). n % length numbers) (sym q)

  pub look_first : 0 < length numbers →
      Looking (length numbers) ks x (get_or words (x.number % length numbers) 0)
  look_first h =
      let last = t.last (x.number % length numbers) (mod-lt x.number h) in
      record { low = last.low; none = λ i p q e. last.none i p q (same-remainder i e); one = last.one }

  module _ {link : ℕ} (at : Looking (length numbers) ks x link) (k : ℕ) (n : link ≡ k + 1) where
    pub next_less : get_or words (words_at (length numbers) k + 2) 0 < link
    next_less =
        let low = at.low in
        omega (arith, (t.before k (omega arith)).low)

    pub look_next : same_key x (key_at s words numbers k) ≡ false →
        Looking (length numbers) ks x (get_or words (words_at (length numbers) k + 2) 0)
    look_next e =
        let low = at.low in
        let l : k < length ks = omega arith in
        let last = t.before k l in
        let next = get_or words (words_at (length numbers) k + 2) 0 in
        let here = ap (same_key x) (sym (t.key k l)) ∙ e in
        let until = below_more (λ (i : ℕ). next ≤ i → same_key x (get_or ks i NO_KEY) ≡ true → ⊥) k
        (λ i m p q. last.none i p m (same-remainder i q ∙ sym (at.one k n))) (λ p q. true≢false (sym q ∙ here)) in
        record {
          low = omega (arith, last.low);
          none = λ i p m. go i (leb link i) refl (λ l. until i l p) m;
          one = λ i q. last.one i q ∙ at.one k n;
        }
      where
        go : (i : ℕ) (b : Bool) → leb link i ≡ b → (i < k + 1 → same_key x (get_or ks i NO_KEY) ≡ true → ⊥)
            → i < length ks → same_key x (get_or ks i NO_KEY) ≡ true → ⊥
        go i true e until m = at.none i (leb-true link i e) m
        go i false e until m = until (omega (arith, leb-false link i e))

    pub found_at : same_key x (key_at s words numbers k) ≡ true → true ≡ stands same_key x ks
    found_at e =
        let low = at.low in
        let l : k < length ks = omega arith in
        sym (stands_at same_key x NO_KEY ks k l (ap (same_key x) (sym (t.key k l)) ∙ e))

  pub found_nowhere : {link : ℕ} → Looking (length numbers) ks x link → link ≡ 0 → false ≡ stands same_key x ks
  found_nowhere at n = sym (stands_nowhere same_key x NO_KEY ks (λ j l. at.none j (omega arith) l))

-- ## One key more

-- three words are stored at `at`, and one at h
record Stored (words all : List ℕ) (at h a b c d : ℕ) : Type 0 where
  size : length all ≡ length words
  other : (i : ℕ) → i < at → (i ≡ h → ⊥) → get_or all i 0 ≡ get_or words i 0
  first : get_or all at 0 ≡ a
  second : get_or all (at + 1) 0 ≡ b
  third : get_or all (at + 2) 0 ≡ c
  last : get_or all h 0 ≡ d

stored : (words : List ℕ) (at h a b c d : ℕ) → h < at → at + 2 < length words →
    Stored words (set (set (set (set words at a) (at + 1) b) (at + 2) c) h d) at h a b c d
stored words at h a b c d below fits =
    let one = set words at a in
    let two = set one (at + 1) b in
    let three = set two (at + 2) c in
    let after : (i : ℕ) → at ≤ i → get_or (set three h d) i 0 ≡ get_or three i 0 =
    λ i l. get_or-set_other three h i d 0 (λ e. omega arith) in
    record {
      size = simp length-set;
      other = λ i l n.
          get_or-set_other three h i d 0 n ∙ get_or-set_other two (at + 2) i c 0 (λ e. omega arith)
          ∙ get_or-set_other one (at + 1) i b 0 (λ e. omega arith) ∙ get_or-set_other words at i a 0 (λ e. omega arith);
      first =
          after at (omega arith) ∙ get_or-set_other two (at + 2) at c 0 (λ e. omega arith)
          ∙ get_or-set_other one (at + 1) at b 0 (λ e. omega arith) ∙ get_or-set_same words at a 0 (omega arith);
      second =
          after (at + 1) (omega arith) ∙ get_or-set_other two (at + 2) (at + 1) c 0 (λ e. omega arith)
          ∙ get_or-set_same one (at + 1) b 0 (simp length-set (omega arith));
      third = after (at + 2) (omega arith) ∙ get_or-set_same two (at + 2) c 0 (simp length-set (omega arith));
      last = get_or-set_same three h d 0 (simp length-set (omega arith));
    }

last_by : {room : ℕ} {ks : List Key} {g h n l m : ℕ} → g ≡ h → l ≡ m → Last room ks g n l → Last room ks h n m
last_by {room} {ks} {g} {h} {n} {l} {m} p q t =
    subst (λ (i : ℕ). Last room ks i n m) p (subst (λ (i : ℕ). Last room ks g n i) q t)

module _ {s words numbers : List ℕ} {ks : List Key} (t : Holds s words numbers ks) (k : KeyAt)
    (free : length ks < length numbers) where
  abbrev room : ℕ
  room = length numbers

  abbrev n : ℕ
  n = length ks

  abbrev at : ℕ
  at = words_at room n

  abbrev bucket : ℕ
  bucket = k.number % room

  abbrev link : ℕ
  link = get_or words bucket 0

  abbrev words₁ : List ℕ
  words₁ = set (set (set (set words at k.start) (at + 1) k.end) (at + 2) link) bucket (n + 1)

  abbrev numbers₁ : List ℕ
  numbers₁ = set numbers n k.number

  abbrev ks₁ : List Key
  ks₁ = ks ++ key_of s k ∷ []

  low : bucket < room
  low = mod-lt k.number (omega arith)

  words_stored : Stored words words₁ at bucket k.start k.end link (n + 1)
  words_stored = stored words at bucket _ _ _ _ (omega (arith, low)) (omega arith)

  long : length ks₁ ≡ n + 1
  long = omega (arith, length-append ks (key_of s k ∷ []))

  old : (j : ℕ) → j < n → get_or ks₁ j NO_KEY ≡ get_or ks j NO_KEY
  old j l = get_or-append ks (key_of s k ∷ []) NO_KEY j l

  new : get_or ks₁ n NO_KEY ≡ key_of s k
  new = get_or_at ks (key_of s k) [] NO_KEY n refl

  rem_old : (j : ℕ) → j < n → remainder room ks₁ j ≡ remainder room ks j
  rem_old j l = ap (λ (y : Key). y.number % room) (old j l)

  rem_new : remainder room ks₁ n ≡ bucket
  rem_new = ap (λ (y : Key). y.number % room) new

  same_room : length numbers₁ ≡ room
  same_room = length-set numbers n k.number

  key_old : (j : ℕ) → j < n → key_at s words₁ numbers₁ j ≡ get_or ks₁ j NO_KEY
  key_old j l =
      let from = words_stored.other (words_at room j) (omega arith) (λ e. omega (arith, low)) in
      let to = words_stored.other (words_at room j + 1) (omega arith) (λ e. omega (arith, low)) in
      let number = get_or-set_other numbers n j k.number 0 (λ e. omega arith) in
      rw same_room ((λ i. record { text = slice (from i) (to i) s; number = number i }) ∙ t.key j l ∙ sym (old j l))

  key_new : key_at s words₁ numbers₁ n ≡ get_or ks₁ n NO_KEY
  key_new =
      let from = words_stored.first in
      let to = words_stored.second in
      let number = get_or-set_same numbers n k.number 0 free in
      rw same_room ((λ i. record { text = slice (from i) (to i) s; number = number i }) ∙ sym new)

  last_more : {g m l : ℕ} → m ≤ n → Last room ks g m l → Last room ks₁ g m l
  last_more h q = record {
    low = q.low;
    none = λ i p r e. q.none i p r (sym (rem_old i (omega arith)) ∙ e);
    one = λ i e. rem_old i (omega (arith, q.low)) ∙ q.one i e;
  }

  last_new : Last room ks₁ bucket (n + 1) (n + 1)
  last_new = record {
    low = omega arith;
    none = λ i p q. absurd (omega arith);
    one = λ i e. let here : i ≡ n = omega arith in ap (remainder room ks₁) here ∙ rem_new;
  }

  last_passed : {g l : ℕ} → (g ≡ bucket → ⊥) → Last room ks₁ g n l → Last room ks₁ g (n + 1) l
  last_passed {g} {l} u q =
      let until = below_more (λ (i : ℕ). l ≤ i → remainder room ks₁ i ≡ g → ⊥) n (λ i r p. q.none i p r)
      (λ p e. u (sym e ∙ rem_new)) in
      record { low = omega (arith, q.low); none = λ i p r. until i r p; one = q.one }

  lasts_more : (g : ℕ) → g < room → Last room ks₁ g (n + 1) (get_or words₁ g 0)
  lasts_more g l = go (eqb g bucket) refl
    where
      go : (b : Bool) → eqb g bucket ≡ b → Last room ks₁ g (n + 1) (get_or words₁ g 0)
      go true e =
          let here = eqb-true g bucket e in
          last_by (sym here) (sym (ap (λ (h : ℕ). get_or words₁ h 0) here ∙ words_stored.last)) last_new
      go false e =
          let other = eqb-false g bucket e in
          let kept = words_stored.other g (omega arith) other in
          last_by refl (sym kept) (last_passed other (last_more (omega arith) (t.last g l)))

  befores_more : (j : ℕ) → j < n + 1 →
      Last room ks₁ (remainder room ks₁ j) j (get_or words₁ (words_at room j + 2) 0)
  befores_more =
      below_more (λ (j : ℕ). Last room ks₁ (remainder room ks₁ j) j (get_or words₁ (words_at room j + 2) 0)) n
      (λ j l. last_by (sym (rem_old j l)) (sym (kept j l)) (last_more (omega arith) (t.before j l)))
      (last_by (sym rem_new) (sym words_stored.third) (last_more (omega arith) (t.last bucket low)))
    where
      kept : (j : ℕ) → j < n → get_or words₁ (words_at room j + 2) 0 ≡ get_or words (words_at room j + 2) 0
      kept j l = words_stored.other (words_at room j + 2) (omega arith) (λ e. omega (arith, low))

  added : Holds s words₁ numbers₁ ks₁
  added = record {
    size = omega (arith, same_room, words_stored.size);
    few = omega (arith, same_room);
    room = omega (arith, same_room, long);
    key = λ j l.
        let keys = below_more (λ (i : ℕ). key_at s words₁ numbers₁ i ≡ get_or ks₁ i NO_KEY) n key_old key_new in
        keys j (omega (arith, long));
    last = λ g l. rw (same_room, long) (lasts_more g (omega (arith, same_room)));
    before = λ j l. rw same_room (befores_more j (omega (arith, long)));
  }

  pub holds_more : {w m : List ℕ} {count : ℕ} → length ks ≡ count → Added words w numbers m k count → Holds s w m ks₁
  holds_more {w} {m} {count} e a =
      let b = subst (λ (i : ℕ). Added words w numbers m k i) (sym e) a in
      subst (λ (l : List ℕ). Holds s l m ks₁) (sym b.words)
      (subst (λ (l : List ℕ). Holds s words₁ l ks₁) (sym b.number) added)
