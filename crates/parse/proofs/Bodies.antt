-- Laws on fields, groups and values.
use mathlib.Core.Path.{◌≡◌, refl, ap, ◌∙◌, sym, subst⁻¹, fun_ext}
use mathlib.Core.Bool.{Bool, true, false, ◌&&◌}
use mathlib.Core.List.{List, [], ◌∷◌, ◌++◌, append-nil}
use Prim.Native.Nat.{ℕ, suc, ◌+◌, ◌-◌, ◌*◌, ◌≤◌, ◌<◌}
use native.Mathlib.Omega.{arith}
use borrow.Author.Tests.{lt-leb}
use lib.Dec.{leb}
use lib.ListN.{length, get_or, set, drop, length-append, drop_of_length-le}
use lib.Seq.{sets}
use Rattle.token_list.specs.Text.{all, digit}
use Rattle.token_list.specs.Stream.{Trees, size, head, others, follows, at}
use Rattle.token_list.specs.Contract.{InList, TokenAt, GroupAt, Skipped}
use Rattle.token_list.specs.declared.check.Cursor.{Cursor}
use Rattle.token_list.specs.declared.stream.Token.{Token}
use Rattle.token_list.proofs.Texts.{and_fails, and_last, drop_next}
use Rattle.reading.specs.Took.{Took, took, stopped, Reader, onward, after, pure, ◌>>=◌}
use Rattle.reading.specs.Reading.{attributes, visibility, one, comma, punct_if, closing, worth_from}
use Rattle.reading.specs.Token.{negatable}
use Rattle.parse.specs.Contract.{Prefix, PrefixOf, prefix, any, point, CursorAt, Said, on, no, Meets, stands}
use Rattle.parse.specs.Contract.{refuses, stream, past_of, Inside, InsideAt, count_shown, body_shown_lem}
use Rattle.reading.specs.Declaration.{Visibility, UnnamedField, Field, named, tuple, Variant, fields, variants}
use Rattle.std.specs.Prelude.{Result, Ok, Err}
use Rattle.token_list.specs.declared.check.Refusal.{Refusal}
use Rattle.parse.proofs.Buffer.{sets_append}
use Rattle.parse.proofs.Meeting.{past_fits, past_in_of, meets_as, meets_no, meets_then, meets_map, meets_inside}
use Rattle.parse.proofs.Meeting.{after_assoc, after-pure}
use Rattle.parse.proofs.Places.{meets_beyond, cursor_at}
use Rattle.reading.specs.Took.{beyond}
use Rattle.reading.specs.Place.{start_at}
use Rattle.reading.proofs.Conserved.{Ended}

-- ## What stands before an item or a field, and then its other parts

pub prefix_then : {B : Type 0} (row : ℕ) (ts : Trees) (k : List Trees → Visibility → Reader B) →
    (attributes >>= λ a. visibility >>= k a) row ts ≡
    after row (prefix row ts) (λ p. k p.attributes p.visibility)
prefix_then row ts k =
    ap (after row (attributes row ts)) (fun_ext (λ a. fun_ext (λ r. fun_ext (λ us.
    sym (after-pure r (visibility r us) (λ v. record { attributes = a; visibility = v })
    (λ p. k p.attributes p.visibility))))))
    ∙ sym (after_assoc row (attributes row ts)
    (λ a. visibility >>= λ v. pure (record { attributes = a; visibility = v }))
    (λ p. k p.attributes p.visibility))

pub prefix_refused : {s : List ℕ} {c : Cursor} {b0 b1 : List ℕ} {n p : ℕ}
    → Meets s c b0 b1 any (no n p) (attributes c.row (stream s c))
    → Meets s c b0 b1 any (no n p) (prefix c.row (stream s c))
prefix_refused m = meets_no (λ a. visibility >>= λ v. pure (record { attributes = a; visibility = v })) m

-- attributes up to d, and a visibility from there up to e
pub meets_prefix : {s : List ℕ} {c d e : Cursor} {b0 b1 b2 : List ℕ} → InList s c
    → Meets s c b0 b1 any (on d) (attributes c.row (stream s c))
    → Meets s d b1 b2 any (on e) (visibility d.row (stream s d))
    → Meets s c b0 b2 (λ (p : Prefix). PrefixOf s c d p × CursorAt s (start_at (point s c)) e) (on e)
    (prefix c.row (stream s c))
meets_prefix i m n =
    let place = meets_beyond attributes m in
    let next = cursor_at (ap (beyond visibility) place.here) (meets_beyond visibility n) in
    meets_then (λ a. visibility >>= λ v. pure (record { attributes = a; visibility = v })) (meets_inside attributes i m)
    (λ a k. meets_map _ (λ v. record { attributes = a; visibility = v })
    (λ v h. (record { attributes = k.1; visibility = h.1; place = place }, next))
    (meets_inside visibility place.in_list n))

-- and then the other parts
pub meets_prefixed : {B : Type 0} {s : List ℕ} {c d e : Cursor} {b0 b1 b2 b3 : List ℕ} {sh : B → Type 0} {x : Said}
    (k : List Trees → Visibility → Reader B) → InList s c
    → Meets s c b0 b1 any (on d) (attributes c.row (stream s c))
    → Meets s d b1 b2 any (on e) (visibility d.row (stream s d))
    → ((p : Prefix) → PrefixOf s c d p × CursorAt s (start_at (point s c)) e →
    Meets s e b2 b3 sh x (k p.attributes p.visibility e.row (stream s e)))
    → Meets s c b0 b3 sh x ((attributes >>= λ a. visibility >>= k a) c.row (stream s c))
meets_prefixed {s = s} {c} k i m n f =
    meets_as (prefix_then c.row (stream s c) k)
    (meets_then (λ (p : Prefix). k p.attributes p.visibility) (meets_prefix i m n) f)

-- ## A value, and the `,` that may follow it

abbrev pub comma_after : {A : Type 0} → A → Reader A
comma_after a = punct_if 44 10 >>= λ u. pure a

pub comma_as : {A B : Type 0} (row : ℕ) (t : Took A) (g : A → B) →
    after row t (λ a. comma (g a)) ≡ after row (after row t comma_after) (λ a. pure (one (g a)))
comma_as row (took a rs us) g = go (punct_if 44 10 (row + length rs) us)
  where
    go : (p : Took Bool) → onward rs (after (row + length rs) p (λ u. pure (one (g a)))) ≡
        after row (onward rs (after (row + length rs) p (λ u. pure a))) (λ a. pure (one (g a)))
    go (took u qs vs) = ap (λ (ps : List ℕ). took (one (g a)) ps vs) (sym (append-nil (rs ++ (qs ++ []))))
    go (stopped w n p) = refl
comma_as row (stopped w n p) g = refl

-- ## The inside of a group

pub closing_map : {A B : Type 0} {s : List ℕ} {c : Cursor} {b0 b1 : List ℕ} {sh : A → Type 0} {sh2 : B → Type 0}
    {x : Said} (us : Trees) (row : ℕ) (t : Took A) (f : A → B)
    → ((a : A) (rs : List ℕ) (rest : Trees) → t ≡ took a rs rest → sh a → sh2 (f a)) →
    Meets s c b0 b1 sh x (closing us t) → Meets s c b0 b1 sh2 x (closing us (after row t (λ a. pure (f a))))
closing_map {s = s} {c} {b0} {b1} {sh2 = sh2} us row (took a rs rest) f g (stands {d = d} m h) =
    subst⁻¹ (λ (qs : List ℕ). Meets s c b0 b1 sh2 (on d) (took (f a) (14 ∷ qs ++ 14 ∷ []) us)) (append-nil rs)
    (stands m (g a rs rest refl h))
closing_map us row (stopped w n p) f g (refuses qs e) = refuses qs e

module _ (s : List ℕ) (c inside : Cursor) (t : Token) (i : InList s c) (g : GroupAt s c.at t) (b0 b1 : List ℕ)
    (p : inside ≡ past_of c t) (w : b1 ≡ set b0 c.row 14) where
  inside-outer : (at s inside.at).outer ≡ g.after ∷ (at s c.at).outer
  inside-outer = ap (λ (y : Cursor). (at s y.at).outer) p ∙ g.outer

  pub closing-follows : {A : Type 0} {d : Cursor} {b2 : List ℕ} {sh : A → Type 0} {x : Took A} →
      Meets s inside b1 b2 sh (on d) x → follows (at s d.at).outer ≡ true
  closing-follows (stands m h) = ap follows (m.outer ∙ inside-outer)

  closing_refused : {A : Type 0} {b2 : List ℕ} {sh sh2 : A → Type 0} {n q : ℕ} {x : Took A} (us : Trees) →
      Meets s inside b1 b2 sh (no n q) x → Meets s c b0 b2 sh2 (no n q) (closing us x)
  closing_refused us (refuses qs e) =
      let below : inside.row ≡ suc c.row = omega (arith, ap (λ (y : Cursor). y.row) p) in
      refuses (14 ∷ qs) (e ∙ (λ j. sets (w j) (below j) qs))

  meets_closing : {A : Type 0} {b2 b3 : List ℕ} {sh : A → Type 0} {d e : Cursor} {x : Took A} →
      Meets s inside b1 b2 sh (on d) x → Ended x → b3 ≡ set b2 d.row 14 → Skipped s d e
      → Meets s c b0 b3 sh (on e) (closing (head (at s t.next).outer) x)
  meets_closing {b2 = b2} {b3 = b3} {sh = sh} {d = d} {e = e} (stands {rs = rs} {us = us} m h) z q k =
      let o : (at s e.at).here ∷ (at s e.at).outer ≡ g.after ∷ (at s c.at).outer = sym k.streams ∙ m.outer ∙
      inside-outer in
      let n : size (stream s d) ≡ 0 = ap size (m.here ∙ z) in
      let r = ap (λ (y : Cursor). y.row) p in
      let y = ap (λ (y : Cursor). y.at) p in
      let l : length (14 ∷ rs ++ 14 ∷ []) ≡ 1 + length rs + 1 = omega (arith, length-append rs (14 ∷ [])) in
      let below : inside.row ≡ suc c.row = omega (arith, r) in
      let last : d.row ≡ suc c.row + length rs = omega (arith, r, m.row) in
      stands {rs = 14 ∷ rs ++ 14 ∷ []}
      (record {
        in_list = k.in_list;
        row = omega (arith, k.row, n, m.row, r, l);
        forth = omega (arith, k.forth, n, m.forth, y, l, past_fits s c t i g.token);
        here = ap head o ∙ sym (ap head g.outer);
        outer = ap others o;
        roles =
            q
            ∙ (λ j. set (m.roles j) (last j) 14)
            ∙ (λ j. set (sets (w j) (below j) rs) (suc c.row + length rs) 14)
            ∙ sym (sets_append (set b0 c.row 14) (suc c.row) rs (14 ∷ []));
      })
      h

  -- a reader of the whole inside
  module _ {A : Type 0} (m : Reader A) where
    read_inside : {b2 : List ℕ} {sh : A → Type 0} {x : Said} →
        Meets s inside b1 b2 sh x (m inside.row (stream s inside)) →
        Meets s inside b1 b2 sh x (m (c.row + 1) (at s t.next).here)
    read_inside y = meets_as (ap (λ (z : Cursor). m z.row (stream s z)) (sym p)) y

    pub group_closed : ((row : ℕ) (ts : Trees) → Ended (m row ts)) → {b2 b3 : List ℕ} {sh : A → Type 0} {d e : Cursor} →
        Meets s inside b1 b2 sh (on d) (m inside.row (stream s inside))
        → b3 ≡ set b2 d.row 14 → Skipped s d e → Meets s c b0 b3 sh (on e) (Inside m s c t)
    group_closed f y q k = meets_closing (read_inside y) (f (c.row + 1) (at s t.next).here) q k

    pub group_refused : {b2 : List ℕ} {sh sh2 : A → Type 0} {n q : ℕ} →
        Meets s inside b1 b2 sh (no n q) (m inside.row (stream s inside)) →
        Meets s c b0 b2 sh2 (no n q) (Inside m s c t)
    group_refused y = closing_refused _ (read_inside y)

-- ## Digits, worth at most the largest i64

worth_grows : (n : ℕ) (bs : List ℕ) → n ≤ worth_from n bs
worth_grows n [] = omega arith
worth_grows n (b ∷ bs) = omega (arith, worth_grows (n * 10 + (b - 48)) bs)

abbrev LIMIT : ℕ
LIMIT = 9223372036854775807

abbrev pub Negatable : ℕ → List ℕ → Bool
Negatable n t = all digit t && leb (worth_from n t) LIMIT

pub negatable-start : (t : List ℕ) → negatable t ≡ Negatable 0 t
unfolding negatable
negatable-start t = refl

module _ (t : List ℕ) (i n : ℕ) (h : i < length t) where
  parts : Negatable n (drop i t) ≡ ((digit (get_or t i 0) && all digit (drop (i + 1) t)) && leb
      (worth_from (n * 10 + (get_or t i 0 - 48)) (drop (i + 1) t)) LIMIT)
  parts = ap (Negatable n) (drop_next t i h)

  pub no_digit : digit (get_or t i 0) ≡ false → Negatable n (drop i t) ≡ false
  no_digit q = parts ∙ and_fails _ _ (and_fails _ _ q)

  pub too_large : 922337203685477580 < n → Negatable n (drop i t) ≡ false
  too_large q = parts ∙ go (digit (get_or t i 0) && all digit (drop (i + 1) t))
      (lt-leb (worth_from (n * 10 + (get_or t i 0 - 48)) (drop (i + 1) t)) LIMIT
      (omega (arith, worth_grows (n * 10 + (get_or t i 0 - 48)) (drop (i + 1) t))))
    where
      go : (b : Bool) {k : Bool} → k ≡ false → (b && k) ≡ false
      go true e = e
      go false e = refl

-- ## What a count tells of a body

pub count-named : (r : Result (Cursor × ℕ) Refusal) (fs : List Field) → count_shown r fs →
    body_shown_lem r (fields (named fs))
count-named (Ok (d, n)) fs h = h
count-named (Err r) fs h = h

pub count_tuple : (r : Result (Cursor × ℕ) Refusal) (ts : List UnnamedField) → count_shown r ts →
    body_shown_lem r (fields (tuple ts))
count_tuple (Ok (d, n)) ts h = h
count_tuple (Err r) ts h = h

pub count_variants : (r : Result (Cursor × ℕ) Refusal) (vs : List Variant) → count_shown r vs →
    body_shown_lem r (variants vs)
count_variants (Ok (d, n)) vs h = h
count_variants (Err r) vs h = h

-- a group's inside, where the reader may read it again
pub inside_at : {A : Type 0} (m : Reader A) (s : List ℕ) (c d : Cursor) (t : Token) → InList s c → TokenAt s c.at t →
    d ≡ past_of c t → {a : A} {rs : List ℕ} {rest : Trees}
    → m (c.row + 1) (at s t.next).here ≡ took a rs rest → InsideAt m s d a
inside_at m s c d t i k p {a} {rs} {rest} e =
    record {
      in_list = past_in_of s c d t p i k;
      roles = rs;
      rest = rest;
      gives = ap (λ (z : Cursor). m z.row
          (stream s z)) p ∙ e;
    }
