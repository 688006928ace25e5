-- Laws on the readers' contract: one law for each way to put readers together.
use mathlib.Core.Path.{◌≡◌, refl, ap, ◌∙◌, sym, subst, subst⁻¹, fun_ext}
use mathlib.Core.Bool.{Bool, true, ◌&&◌}
use mathlib.Core.List.{List, [], ◌∷◌, ◌++◌, append_assoc, append-nil}
use Prim.Native.Nat.{ℕ, ◌+◌, ◌-◌, ◌≤◌, ◌<◌}
use native.Mathlib.Omega.{arith}
use lib.Dec.{eqb}
use lib.ListN.{length, set, replicate, length-append, length-replicate}
use lib.Seq.{sets}
use Rattle.token_list.specs.Layout.{PUNCT}
use Rattle.token_list.specs.Row.{Row}
use Rattle.token_list.specs.Stream.{Trees, end, leaf, group, head, others, follows, at}
use Rattle.token_list.specs.Contract.{InList, TokenAt, LeafAt, GroupAt, Skipped, row_of, stands as stands_at}
use Rattle.token_list.specs.declared.stream.Peeked.{Peeked}
use Rattle.token_list.specs.declared.check.Cursor.{Cursor}
use Rattle.token_list.specs.declared.stream.Token.{Token}
use Rattle.reading.specs.Took.{Took, took, Cause, stopped, Reader, onward, after, ◌>>=◌, place_of, pure}
use Rattle.reading.specs.Token.{starts}
use Rattle.reading.specs.Reading.{copied, group_size, is_punct, Word, missing}
use Rattle.reading.specs.Reading.{found}
use Rattle.parse.specs.Contract.{Moved, Said, on, no, Meets, stands, refuses, refusal, stream, past_of, Belonged}
use Rattle.parse.specs.Contract.{InsideAt, point, word_shown, word_said}
use Rattle.parse.specs.Contract.{WordAt as WordOf}
use Rattle.parse.specs.declared.utils.Word.{Word as WordAt}
use Rattle.std.specs.Prelude.{Option, Some, None, Result, Ok, Err, IsErrAnd}
use Rattle.std.proofs.Common.{◌⊎◌, inl, inr}
use Rattle.token_list.specs.declared.check.Refusal.{Refusal}
use Rattle.token_list.proofs.Starts.{next_start}
use Rattle.token_list.proofs.Streams.{byte_of}
use Rattle.parse.proofs.Buffer.{sets_append}

-- ## Moves

pub moved_none : (s : List ℕ) (c : Cursor) (b : List ℕ) → InList s c → Moved s c c [] (stream s c) b b
moved_none s c b i =
    record { in_list = i; row = omega arith; forth = omega arith; here = refl; outer = refl; roles = refl }

-- stores from the row where a reader stopped on follow its own
pub stored_on : {s : List ℕ} {a b : Cursor} {rs : List ℕ} {us : Trees} {b0 b1 b2 : List ℕ} (qs : List ℕ)
    → Moved s a b rs us b0 b1 → b2 ≡ sets b1 b.row qs → b2 ≡ sets b0 a.row (rs ++ qs)
stored_on {a = a} {rs = rs} {b0 = b0} qs m e = e ∙ (λ i. sets (m.roles i) (m.row i) qs) ∙
    sym (sets_append b0 a.row rs qs)

pub moved_on : {s : List ℕ} {a b c : Cursor} {rs qs : List ℕ} {us vs : Trees} {b0 b1 b2 : List ℕ}
    → Moved s a b rs us b0 b1 → Moved s b c qs vs b1 b2 → Moved s a c (rs ++ qs) vs b0 b2
moved_on {rs = rs} {qs} m n =
    record {
      in_list = n.in_list;
      row = omega (arith, m.row, n.row, length-append rs qs);
      forth = omega (arith, m.forth, n.forth, length-append rs qs);
      here = n.here;
      outer = n.outer ∙ m.outer;
      roles = stored_on qs m n.roles;
    }

module _ (s : List ℕ) (c : Cursor) (t : Token) (i : InList s c) where
  pub past_fits : TokenAt s c.at t → (c.row < length s) × (c.at + 1 ≤ t.next)
  past_fits
      k = (
        omega (arith, i.counted, i.within, k.start, k.text, k.next, k.within),
        omega (arith, k.start, k.text, k.next),
      )

  pub past_in : TokenAt s c.at t → InList s (past_of c t)
  past_in k =
      record {
        starts = k.next ∙ next_start s c.row c.at t.end i.starts k.end;
        counted = omega (arith, i.counted, k.start, k.text, k.next);
        within = k.within;
        right_rows = k.right_rows;
      }

  pub leaf_moved : (b : List ℕ) (r : ℕ) → LeafAt s c.at t →
      Moved s c (past_of c t) (r ∷ []) (stream s (past_of c t)) b (set b c.row r)
  leaf_moved b r l =
      record {
        in_list = past_in l.token;
        row = omega arith;
        forth = omega (arith, past_fits l.token);
        here = refl;
        outer = sym l.outer;
        roles = refl;
      }

  pub group_follows : GroupAt s c.at t → follows (at s t.next).outer ≡ true
  group_follows g = ap follows g.outer

  -- past a group_size group, every row with the role r
  pub group_moved : (b : List ℕ) (r : ℕ) (d : Cursor) → GroupAt s c.at t → Skipped s (past_of c t) d
      → Moved s c d (copied r (at s t.next).here) (head (at s t.next).outer) b
      (sets b c.row (replicate (d.row - c.row) r))
  group_moved b r d g k =
      let w = group_size (at s t.next).here in
      let n : d.row ≡ c.row + w = omega (arith, k.row) in
      let l : length (copied r (at s t.next).here) ≡ w = length-replicate w r in
      let z : d.row - c.row ≡ w = omega (arith, n) in
      record {
        in_list = k.in_list;
        row = omega (arith, n, l);
        forth = omega (arith, k.forth, l, past_fits g.token);
        here = sym (ap head k.streams);
        outer = ap others (sym k.streams ∙ g.outer);
        roles = ap (λ (x : ℕ). sets b c.row (replicate x r)) z;
      }

  -- what the group's streams are
  pub group_stream : GroupAt s c.at t → stream s c ≡
      group t.byte (at s t.next).here (head (at s t.next).outer)
  group_stream g = g.here ∙ ap (λ (u : Trees). group t.byte (at s t.next).here u) (sym (ap head g.outer))

-- ## Putting readers together

module _ {A : Type 0} {s : List ℕ} {c : Cursor} {b0 b1 : List ℕ} {sh : A → Type 0} where
  -- another way to say the reading
  pub meets_as : {x : Said} {t u : Took A} → u ≡ t → Meets s c b0 b1 sh x t → Meets s c b0 b1 sh x u
  meets_as {x} e m = subst⁻¹ (Meets s c b0 b1 sh x) e m

  -- another way to say the answer
  pub meets_say : {x y : Said} {t : Took A} → x ≡ y → Meets s c b0 b1 sh x t → Meets s c b0 b1 sh y t
  meets_say {x} {y} {t} e m = subst (λ z. Meets s c b0 b1 sh z t) e m

  pub landed : {d : Cursor} {t : Took A} → Meets s c b0 b1 sh (on d) t → InList s d
  landed (stands m h) = m.in_list

  pub meets_show : {sh2 : A → Type 0} {x : Said} {t : Took A} → ((a : A) → sh a → sh2 a) → Meets s c b0 b1 sh x t →
      Meets s c b0 b1 sh2 x t
  meets_show f (stands m h) = stands m (f _ h)
  meets_show f (refuses qs e) = refuses qs e

pub meets_stay : {A : Type 0} (s : List ℕ) (c : Cursor) (b : List ℕ) (sh : A → Type 0) (a : A) → InList s c → sh a →
    Meets s c b b sh (on c) (took a [] (stream s c))
meets_stay s c b sh a i h = stands (moved_none s c b i) h

pub meets_onward : {A : Type 0} {s : List ℕ} {c d : Cursor} {rs : List ℕ} {us : Trees} {b0 b1 b2 : List ℕ}
    {sh : A → Type 0} {x : Said} {t : Took A}
    → Moved s c d rs us b0 b1 → Meets s d b1 b2 sh x t → Meets s c b0 b2 sh x (onward rs t)
meets_onward m (stands n h) = stands (moved_on m n) h
meets_onward {rs = rs} m (refuses qs e) = refuses (rs ++ qs) (stored_on qs m e)

-- a part that was taken, and what is left
pub meets_belonged : {A : Type 0} {s : List ℕ} {c d : Cursor} {b0 b1 b2 : List ℕ} {sh : A → Type 0} {x : Said}
    {t u : Took A} → Belonged s c d b0 b1 t u → Meets s d b1 b2 sh x u → Meets s c b0 b2 sh x t
meets_belonged b g = meets_as b.same (meets_onward b.moved g)

-- nothing is taken
pub meets_still : {A : Type 0} {s : List ℕ} {c : Cursor} {b0 b1 : List ℕ} {sh : A → Type 0} {t : Took A} (a : A) →
    InList s c → t ≡ took a [] (stream s c) → b1 ≡ b0 → sh a → Meets s c b0 b1 sh (on c) t
meets_still {s = s} {c} {b0} {b1} {sh} {t} a i e q h =
    subst⁻¹ (λ (b : List ℕ). Meets s c b0 b sh (on c) t) q (meets_as e (meets_stay s c b0 sh a i h))

-- a reader, and then another from where it stopped
pub meets_then : {A B : Type 0} {s : List ℕ} {c d : Cursor} {b0 b1 b2 : List ℕ} {sh : A → Type 0} {sh2 : B → Type 0}
    {x : Said} {t : Took A}
    (f : A → Reader B) → Meets s c b0 b1 sh (on d) t →
    ((a : A) → sh a → Meets s d b1 b2 sh2 x (f a d.row (stream s d)))
    → Meets s c b0 b2 sh2 x (after c.row t f)
meets_then {s = s} {c} {d} {b0} {b1} {b2} {sh} {sh2} {x} f (stands {a = a} {rs = rs} {us = us} m h) k =
    meets_onward m
    (subst (λ u. Meets s d b1 b2 sh2 x (f a (c.row + length rs) u)) m.here
    (subst (λ r. Meets s d b1 b2 sh2 x (f a r (stream s d))) m.row (k a h)))

-- a reader that refuses
pub meets_no : {A B : Type 0} {s : List ℕ} {c : Cursor} {b0 b1 : List ℕ} {sh : A → Type 0} {sh2 : B → Type 0} {n p : ℕ}
    {t : Took A}
    (f : A → Reader B) → Meets s c b0 b1 sh (no n p) t → Meets s c b0 b1 sh2 (no n p) (after c.row t f)
meets_no f (refuses qs e) = refuses qs e

-- what stands at a cursor, by the answer that was given
pub peeked : (s : List ℕ) (i : ℕ) {p q : Peeked} → stands_at s i p → p ≡ q → stands_at s i q
peeked s i h e = subst (stands_at s i) e h

-- ## A reader, by what stands at the cursor

pub token_within : (s : List ℕ) (i : ℕ) (t : Token) → TokenAt s i t → t.end ≤ length s
token_within s i t k = omega (arith, k.next, k.within)

pub past_in_of : (s : List ℕ) (c d : Cursor) (t : Token) → d ≡ past_of c t → InList s c → TokenAt s c.at t →
    InList s d
past_in_of s c d t e i k = subst⁻¹ (InList s) e (past_in s c t i k)

pub follows_of : (s : List ℕ) (c d : Cursor) (t : Token) → d ≡ past_of c t → InList s c → GroupAt s c.at t →
    follows (at s d.at).outer ≡ true
follows_of s c d t e i g = subst⁻¹ (λ (x : Cursor). follows (at s x.at).outer ≡ true) e (group_follows s c t i g)

module _ {A : Type 0} (m : Reader A) (s : List ℕ) (c : Cursor) (in_list : InList s c) (sh : A → Type 0) where
  -- it takes nothing
  pub meets_same : (b : List ℕ) (ts : Trees) (a : A) → stream s c ≡ ts → m c.row ts ≡ took a [] ts → sh a →
      Meets s c b b sh (on c) (m c.row (stream s c))
  meets_same b ts a e q h = meets_as (ap (m c.row) e ∙ q ∙ ap (took a []) (sym e)) (meets_stay s c b sh a in_list h)

  -- it refuses
  pub meets_refused : (b : List ℕ) (ts : Trees) {w : Cause} (n p : ℕ) → stream s c ≡ ts → m c.row ts ≡ stopped w n p
      → Meets s c b b sh (no n p) (m c.row (stream s c))
  meets_refused b ts n p e q = meets_as (ap (m c.row) e ∙ q) (refuses [] refl)

  module _ (t : Token) (l : LeafAt s c.at t) (d : Cursor) (b0 b1 : List ℕ) (r : ℕ) (e : d ≡ past_of c t)
      (q : b1 ≡ set b0 c.row r) where
    pub leaf_taken : Moved s c d (r ∷ []) (stream s d) b0 b1
    leaf_taken = subst⁻¹ (λ (x : Cursor). Moved s c x (r ∷ []) (stream s x) b0 b1) e
        (subst⁻¹ (λ (b : List ℕ). Moved s c (past_of c t) (r ∷ []) (stream s (past_of c t)) b0 b) q
        (leaf_moved s c t in_list b0 r l))

    -- it takes the token
    pub meets_leaf : (a : A) → m c.row (leaf (row_of s t) (at s t.next).here) ≡
        took a (r ∷ []) (at s t.next).here → sh a → Meets s c b0 b1 sh (on d) (m c.row (stream s c))
    meets_leaf a k h =
        let f = ap (λ (x : Cursor). stream s x) e in
        meets_as (ap (m c.row) l.here ∙ k ∙ ap (took a (r ∷ [])) (sym f)) (stands leaf_taken h)

    -- it takes the token and goes on
    pub leaf_belonged : (k : Reader A) →
        m c.row (leaf (row_of s t) (at s t.next).here) ≡ onward (r ∷ []) (k (c.row + 1) (at s t.next).here)
        → Belonged s c d b0 b1 (m c.row (stream s c)) (k d.row (stream s d))
    leaf_belonged k f =
        record {
          roles = r ∷ [];
          moved = leaf_taken;
          some = omega arith;
          same = ap (m c.row) l.here ∙ f ∙
              ap (λ (y : Cursor). onward (r ∷ []) (k y.row (stream s y))) (sym e);
        }

    pub meets_from : (b2 : List ℕ) (x : Said) (k : Reader A) →
        m c.row (leaf (row_of s t) (at s t.next).here) ≡ onward (r ∷ []) (k (c.row + 1) (at s t.next).here)
        → Meets s d b1 b2 sh x (k d.row (stream s d)) → Meets s c b0 b2 sh x (m c.row (stream s c))
    meets_from b2 x k f g = meets_belonged (leaf_belonged k f) g

  module _ (t : Token) (g : GroupAt s c.at t) (d : Cursor) (b0 b1 rs : List ℕ)
      (moved : Moved s c d rs (head (at s t.next).outer) b0 b1) where
    -- it takes the group
    pub meets_group : (a : A) → m c.row (group t.byte (at s t.next).here (head (at s t.next).outer)) ≡
        took a rs (head (at s t.next).outer) → sh a
        → Meets s c b0 b1 sh (on d) (m c.row (stream s c))
    meets_group a k h = meets_as (ap (m c.row) (group_stream s c t in_list g) ∙ k) (stands moved h)

pub leaf_then : (s : List ℕ) (c d : Cursor) (t : Token) (us : Trees) → LeafAt s c.at t → d ≡ past_of c t →
    stream s d ≡ us → stream s c ≡ leaf (row_of s t) us
leaf_then s c d t us l e n = l.here ∙ ap (leaf (row_of s t)) (sym (ap (λ (x : Cursor). stream s x) e) ∙ n)

-- the test for a punctuation, on the token
pub punct_of : (s : List ℕ) (i : ℕ) (t : Token) (b : ℕ) → TokenAt s i t →
    is_punct b (row_of s t) ≡ (eqb t.kind PUNCT && eqb t.byte b)
punct_of s i t b k = byte_of s i t k (λ (p : Bool) (x : ℕ). p && eqb x b) (λ x y. refl)

-- the same on the stream, where the token stands
pub stands-row : {s : List ℕ} {i : ℕ} {t : Token} (b : ℕ) → LeafAt s i t → starts (is_punct b) (at s i).here ≡ true →
    is_punct b (row_of s t) ≡ true
stands-row b l e = sym (ap (starts (is_punct b)) l.here) ∙ e

-- it takes nothing where no group stands
pub meets_no_group : {A : Type 0} (m : Reader A) {s : List ℕ} {c : Cursor} {b : List ℕ} {sh : A → Type 0} {p : Peeked}
    (a : A) → InList s c → stands_at s c.at p → (p ≡ Peeked.Nothing) ⊎ ((t : Token) × p ≡ Peeked.Leaf t)
    → m c.row end ≡ took a [] end → ((r : Row) (us : Trees) → m c.row (leaf r us) ≡ took a [] (leaf r us)) → sh a
    → Meets s c b b sh (on c) (m c.row (stream s c))
meets_no_group m {s} {c} {b} {sh} a i k (inl e) f g h = meets_same m s c i sh b _ a (peeked s c.at k e) f h
meets_no_group m {s} {c} {b} {sh} a i k (inr (t, e)) f g h =
    meets_same m s c i sh b _ a (peeked s c.at k e).here (g _ _) h

-- ## Readers that go round: what was `was` at the cursor `from` is `is` at c

pub record Going {A : Type 0} (s : List ℕ) (from : Cursor) (before : List ℕ) (c : Cursor) (now : List ℕ)
    (was is : Took A) : Type 0 where
  pub taken : List ℕ
  pub moved : Moved s from c taken (stream s c) before now
  pub same : was ≡ onward taken is

onward-none : {A : Type 0} (t : Took A) → onward [] t ≡ t
onward-none (took a rs us) = refl
onward-none (stopped w n p) = refl

onward_append : {A : Type 0} (rs qs : List ℕ) (t : Took A) → onward rs (onward qs t) ≡ onward (rs ++ qs) t
onward_append rs qs (took a ps us) = simp append_assoc
onward_append rs qs (stopped w n p) = refl

pub going_start : {A : Type 0} (s : List ℕ) (c : Cursor) (b : List ℕ) (t : Took A) → InList s c → Going s c b c b t t
going_start s c b t i = record { taken = []; moved = moved_none s c b i; same = sym (onward-none t) }

pub going_more : {A : Type 0} {s : List ℕ} {from c d : Cursor} {b0 b1 b2 : List ℕ} {t u v : Took A} →
    Going s from b0 c b1 t u → Belonged s c d b1 b2 u v → Going s from b0 d b2 t v
going_more {v = v} k g =
    record {
      taken = k.taken ++ g.roles;
      moved = moved_on k.moved g.moved;
      same = k.same ∙ ap (onward k.taken) g.same ∙ onward_append k.taken g.roles v;
    }

pub going_ends : {A : Type 0} {s : List ℕ} {from c : Cursor} {b0 b1 b2 : List ℕ} {t u : Took A} {sh : A → Type 0}
    (a : A)
    → Going s from b0 c b1 t u → u ≡ took a [] (stream s c) → b2 ≡ b1 → sh a → Meets s from b0 b2 sh (on c) t
going_ends {s = s} {from} {c} {b0} {b1} {t = t} {sh = sh} a k e q h =
    subst⁻¹ (λ b. Meets s from b0 b sh (on c) t) q
    (meets_as (k.same ∙ ap (onward k.taken) e)
    (meets_onward k.moved (meets_stay s c b1 sh a k.moved.in_list h)))

-- the last part of it meets what is left
pub going_meets : {A : Type 0} {s : List ℕ} {from c : Cursor} {b0 b1 b2 : List ℕ} {t u : Took A} {sh : A → Type 0}
    {x : Said}
    → Going s from b0 c b1 t u → Meets s c b1 b2 sh x u → Meets s from b0 b2 sh x t
going_meets k m = meets_as k.same (meets_onward k.moved m)

-- ## Words

module _ {B : Type 0} (f : Word → Reader B) {s : List ℕ} {c : Cursor} {b0 b1 b2 : List ℕ} {sh : B → Type 0} {x : Said}
    {t : Took Word} where
  pub meets_word : (w : WordAt) → Meets s c b0 b1 (word_shown s c (Some w)) (on w.next) t
      → ((text : List ℕ) → WordOf s (point s c) w text →
      Meets s w.next b1 b2 sh x (f (found text w.row) w.next.row (stream s w.next)))
      → Meets s c b0 b2 sh x (after c.row t f)
  meets_word w m k = meets_then f m (λ a h. subst⁻¹ (λ (y : Word). Meets s w.next b1 b2 sh x
      (f y w.next.row (stream s w.next))) h.1 (k h.0 h.2))

  pub meets_missing : Meets s c b0 b1 (word_shown s c None) (on c) t →
      Meets s c b1 b2 sh x (f missing c.row (stream s c)) → Meets s c b0 b2 sh x (after c.row t f)
  meets_missing m k =
      meets_then f m (λ a h. subst⁻¹ (λ (y : Word). Meets s c b1 b2 sh x (f y c.row (stream s c))) h k)

-- a refusal at what stands at the cursor
pub meets_wrong : {A : Type 0} {s : List ℕ} {c : Cursor} {b : List ℕ} {sh : A → Type 0} (r : Refusal) (n : ℕ)
    → (r.number ≡ n) × (r.place ≡ place_of c.row (stream s c)) →
    {w : Cause} → Meets s c b b sh (refusal r) (stopped w n (place_of c.row (stream s c)))
meets_wrong r n e {w} = meets_say (λ i. no (sym e.0 i) (sym e.1 i)) (refuses [] refl)

-- ## Readers in a row may be bracketed otherwise

after-onward : {A B : Type 0} (row : ℕ) (rs : List ℕ) (t : Took A) (g : A → Reader B) →
    after row (onward rs t) g ≡ onward rs (after (row + length rs) t g)
after-onward row rs (took a qs us) g =
    let e : row + length (rs ++ qs) ≡ row + length rs + length qs = omega (arith, length-append rs qs) in
    ap (λ (k : ℕ). onward (rs ++ qs) (g a k us)) e ∙ sym (onward_append rs qs (g a (row + length rs + length qs) us))
after-onward row rs (stopped w n p) g = refl

pub after_assoc : {A B C : Type 0} (row : ℕ) (t : Took A) (f : A → Reader B) (g : B → Reader C) →
    after row (after row t f) g ≡ after row t (λ a. f a >>= g)
after_assoc row (took a rs us) f g = after-onward row rs (f a (row + length rs) us) g
after_assoc row (stopped w n p) f g = refl

pub pure_then : {A B : Type 0} (a : A) (g : A → Reader B) (row : ℕ) (ts : Trees) → (pure a >>= g) row ts ≡ g a row ts
pure_then a g row ts =
    let e : row + length {A = ℕ} [] ≡ row = omega arith in
    onward-none (g a (row + length {A = ℕ} []) ts) ∙ ap (λ (n : ℕ). g a n ts) e

-- a value made, and then a reader that goes on with it
pub after-pure : {A B C : Type 0} (row : ℕ) (t : Took A) (f : A → B) (g : B → Reader C) →
    after row (after row t (λ a. pure (f a))) g ≡ after row t (λ a. g (f a))
after-pure row t f g =
    after_assoc row t (λ a. pure (f a)) g ∙
    ap (after row t) (fun_ext (λ a. fun_ext (λ r. fun_ext (λ us. pure_then (f a) g r us))))

-- what a word's reader answered
pub say_word : {s : List ℕ} {c : Cursor} {b0 b1 : List ℕ} {t : Took Word} {p q : Option WordAt} → p ≡ q →
    Meets s c b0 b1 (word_shown s c p) (word_said c p) t → Meets s c b0 b1 (word_shown s c q) (word_said c q) t
say_word {s} {c} {b0} {b1} {t} e m =
    subst (λ (p : Option WordAt). Meets s c b0 b1 (word_shown s c p) (word_said c p) t) e m

-- what a reader answered, by its own enum
pub say : {R A : Type 0} (sh : R → A → Type 0) (f : R → Said) {s : List ℕ} {c : Cursor} {b0 b1 : List ℕ} {t : Took A}
    {p q : R}
    → p ≡ q → Meets s c b0 b1 (sh p) (f p) t → Meets s c b0 b1 (sh q) (f q) t
say {R} sh f {s} {c} {b0} {b1} {t} e m = subst (λ (x : R). Meets s c b0 b1 (sh x) (f x) t) e m

-- the value made into another
pub meets_map : {A B : Type 0} {s : List ℕ} {c : Cursor} {b0 b1 : List ℕ} {sh : A → Type 0} {sh2 : B → Type 0}
    {x : Said} {t : Took A} (row : ℕ) (f : A → B)
    → ((a : A) → sh a → sh2 (f a)) → Meets s c b0 b1 sh x t → Meets s c b0 b1 sh2 x (after row t (λ a. pure (f a)))
meets_map {s = s} {c} {b0} {b1} {sh2 = sh2} row f g (stands {d = d} {a = a} {rs = rs} {us = us} m h) =
    subst⁻¹ (λ (qs : List ℕ). Meets s c b0 b1 sh2 (on d) (took (f a) qs us)) (append-nil rs) (stands m (g a h))
meets_map row f g (refuses qs e) = refuses qs e

-- of a refusal nothing is shown
pub meets_none : {A : Type 0} {s : List ℕ} {c : Cursor} {b0 b1 : List ℕ} {sh sh2 : A → Type 0} {n p : ℕ} {t : Took A} →
    Meets s c b0 b1 sh (no n p) t → Meets s c b0 b1 sh2 (no n p) t
meets_none (refuses qs e) = refuses qs e

-- with the value, that it is read at c
pub meets_inside : {A : Type 0} (m : Reader A) {s : List ℕ} {c : Cursor} {b0 b1 : List ℕ} {sh : A → Type 0} {x : Said} →
    InList s c
    → Meets s c b0 b1 sh x (m c.row (stream s c)) →
    Meets s c b0 b1 (λ (a : A). sh a × InsideAt m s c a) x (m c.row (stream s c))
meets_inside {A} m {s} {c} {b0} {b1} {sh} i w = go refl w
  where
    go : {x : Said} {t : Took A} → m c.row (stream s c) ≡ t → Meets s c b0 b1 sh x t →
        Meets s c b0 b1 (λ (a : A). sh a × InsideAt m s c a) x t
    go e (stands {rs = rs} {us = us} mv h) = stands mv (h, record { in_list = i; roles = rs; rest = us; gives = e })
    go e (refuses qs q) = refuses qs q

-- ## `?`

-- what a `?` answers where the callee refused
pub given_up : {T : Type 0} {e : Refusal} (r : Result T Refusal) → IsErrAnd r (λ x. x ≡ e) → r ≡ Err e
given_up (Err x) h = ap Err h
given_up (Ok t) h = absurd h

-- the same of what an answer says
pub meets_given_up : {R A : Type 0} {s : List ℕ} {c : Cursor} {b0 b1 : List ℕ} {t : Took A} {e : Refusal}
    (f : Result R Refusal → Said) (g : Result R Refusal → A → Type 0) {r : Result R Refusal}
    → IsErrAnd r (λ x. x ≡ e) → Meets s c b0 b1 (g (Err e)) (f (Err e)) t → Meets s c b0 b1 (g r) (f r) t
meets_given_up {s = s} {c} {b0} {b1} {t} f g {r} h m =
    subst⁻¹ (λ r. Meets s c b0 b1 (g r) (f r) t) (given_up r h) m

-- the same of what a `?` went on with, where a match tells what it is
pub meets_matched : {R A : Type 0} {s : List ℕ} {c : Cursor} {b0 b1 : List ℕ} {t : Took A}
    (f : Result R Refusal → Said) (g : Result R Refusal → A → Type 0) {p q : R}
    → p ≡ q → Meets s c b0 b1 (g (Ok p)) (f (Ok p)) t → Meets s c b0 b1 (g (Ok q)) (f (Ok q)) t
meets_matched {R} {s = s} {c} {b0} {b1} {t} f g e m = subst (λ (r : R). Meets s c b0 b1 (g (Ok r)) (f (Ok r)) t) e m
