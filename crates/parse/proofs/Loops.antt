-- Laws on loops over a reader that goes round: what was read from the cursor `from` on, and what is left at c.
use mathlib.Core.Path.{◌≡◌, refl, ap, ◌∙◌, sym, subst, subst⁻¹}
use mathlib.Core.List.{List, [], ◌∷◌, ◌++◌, append_assoc, append-nil}
use Prim.Native.Nat.{ℕ, ◌+◌, ◌≤◌, ◌<◌}
use native.Mathlib.Omega.{arith}
use lib.ListN.{length, length-append}
use Rattle.token_list.specs.Stream.{Trees}
use Rattle.token_list.specs.Contract.{InList}
use Rattle.token_list.specs.declared.check.Cursor.{Cursor}
use Rattle.reading.specs.Took.{Took, took, stopped, Reader, onward, gathered, after, pure}
use Rattle.reading.specs.Reading.{Maybe, done, one, more, every}
use Rattle.parse.specs.Contract.{Moved, Said, on, no, any, Meets, stands, refuses, stream, Gained}
use Rattle.parse.proofs.Meeting.{stored_on, moved_none, moved_on}
use Rattle.reading.proofs.Rounds.{Round, Rounding, every-step}

-- what was read from `from` on up to c, and what is left there
pub record Gathering {A : Type 0} (s : List ℕ) (from : Cursor) (before : List ℕ) (c : Cursor) (now : List ℕ)
    (was is : Took (List A)) : Type 0 where
  pub got : List A
  pub taken : List ℕ
  pub moved : Moved s from c taken (stream s c) before now
  pub same : was ≡ gathered got taken is

-- the same with a count
pub record Rounded {A : Type 0} (s : List ℕ) (from : Cursor) (before : List ℕ) (c : Cursor) (now : List ℕ) (count : ℕ)
    (was is : Took (List A)) : Type 0 where
  pub gathering : Gathering s from before c now was is
  pub counted : count ≡ length gathering.got
  pub few : count ≤ c.at

gathered_none : {A : Type 0} (t : Took (List A)) → gathered [] [] t ≡ t
gathered_none (took ys qs us) = refl
gathered_none (stopped w n p) = refl

gathered_append : {A : Type 0} (xs ys : List A) (rs qs : List ℕ) (t : Took (List A)) →
    gathered xs rs (gathered ys qs t) ≡ gathered (xs ++ ys) (rs ++ qs) t
gathered_append xs ys rs qs (took zs ps us) = simp append_assoc
gathered_append xs ys rs qs (stopped w n p) = refl

pub gathered-onward : {A : Type 0} (rs : List ℕ) (t : Took (List A)) → onward rs t ≡ gathered [] rs t
gathered-onward rs (took ys qs us) = refl
gathered-onward rs (stopped w n p) = refl

pub gathered_one : {A : Type 0} (row : ℕ) (a : A) (rs : List ℕ) (t : Took (List A)) →
    onward rs (after row t (λ xs. pure (a ∷ xs))) ≡ gathered (a ∷ []) rs t
gathered_one row a rs (took xs qs us) = ap (λ (ps : List ℕ). took (a ∷ xs) (rs ++ ps) us) (append-nil qs)
gathered_one row a rs (stopped w n p) = refl

pub gathering_start : {A : Type 0} (s : List ℕ) (c : Cursor) (b : List ℕ) (t : Took (List A)) → InList s c →
    Gathering s c b c b t t
gathering_start s c b t i =
    record { got = []; taken = []; moved = moved_none s c b i; same = sym (gathered_none t) }

pub gathering_more : {A : Type 0} {s : List ℕ} {from c d : Cursor} {b0 b1 b2 : List ℕ} {xs : List A}
    {t u v : Took (List A)} → Gathering s from b0 c b1 t u → Gained s c d b1 b2 xs u v → Gathering s from b0 d b2 t v
gathering_more {xs = xs} {v = v} k g =
    record {
      got = k.got ++ xs;
      taken = k.taken ++ g.roles;
      moved = moved_on k.moved g.moved;
      same = k.same ∙ ap (gathered k.got k.taken) g.same ∙
          gathered_append k.got xs k.taken g.roles v;
    }

-- the last part of it meets what is left
pub gathering_meets : {A : Type 0} {s : List ℕ} {from c : Cursor} {b0 b1 b2 : List ℕ} {t u : Took (List A)} {x : Said}
    → Gathering s from b0 c b1 t u → Meets s c b1 b2 any x u → Meets s from b0 b2 any x t
gathering_meets {A} {s} {from} {c} {b0} {b1} {b2} {t} {u} {x} k m =
    subst⁻¹ (Meets s from b0 b2 any x) k.same (go m)
  where
    go : {u : Took (List A)} {x : Said} → Meets s c b1 b2 any x u →
        Meets s from b0 b2 any x (gathered k.got k.taken u)
    go (stands mv h) = stands (moved_on k.moved mv) tt
    go (refuses qs e) = refuses (k.taken ++ qs) (stored_on qs k.moved e)

pub rounds-start : {A : Type 0} (s : List ℕ) (c : Cursor) (b : List ℕ) (t : Took (List A)) → InList s c →
    Rounded s c b c b 0 t t
unfolding gathering_start
rounds-start s c b t i = record { gathering = gathering_start s c b t i; counted = refl; few = omega arith }

module _ {A : Type 0} (m : Reader (Maybe A)) (rd : Rounding m) {s : List ℕ} {from c : Cursor} {b0 b1 : List ℕ}
    {count : ℕ} {was : Took (List A)}
    (k : Rounded s from b0 c b1 count was (every m c.row (stream s c))) where
  -- the reader's own answer, and then the rest
  step : {t : Took (Maybe A)} → m c.row (stream s c) ≡ t →
      every m c.row (stream s c) ≡ after c.row t (more (every m))
  step e = every-step m rd c.row (stream s c) ∙ ap (λ (u : Took (Maybe A)). after c.row u (more (every m))) e

  another_one : {b2 : List ℕ} (d : Cursor) (a : A) (rs : List ℕ) (us : Trees) →
      m c.row (stream s c) ≡ took (one a) rs us → Moved s c d rs us b1 b2
      → Rounded s from b0 d b2 (count + 1) was (every m d.row (stream s d)) × (c.at < d.at)
  unfolding gathering_more
  another_one {b2} d a rs us e mv =
      let p = (subst (Round (stream s c)) e (rd c.row (stream s c))).1 in
      let gained : Gained s c d b1 b2 (a ∷ []) (every m c.row (stream s c)) (every m d.row (stream s d)) =
      record {
        roles = rs;
        moved = record {
          in_list = mv.in_list;
          row = mv.row;
          forth = mv.forth;
          here = refl;
          outer = mv.outer;
          roles = mv.roles;
        };
        some = p;
        same = step e ∙ gathered_one (c.row + length rs) a rs (every m (c.row + length rs) us) ∙
            (λ i. gathered (a ∷ []) rs (every m (sym mv.row i) (sym mv.here i)));
      } in (
        record {
          gathering = gathering_more k.gathering gained;
          counted = omega (arith, k.counted, length-append k.gathering.got (a ∷ []));
          few = omega (arith, k.few, mv.forth, p);
        },
        omega (arith, mv.forth, p),
      )

  pub rounds-more : {b2 : List ℕ} {d : Cursor} →
      Meets s c b1 b2 (λ (v : Maybe A). (a : A) × (v ≡ one a)) (on d) (m c.row (stream s c))
      → Rounded s from b0 d b2 (count + 1) was (every m d.row (stream s d)) × (c.at < d.at)
  rounds-more {b2} {d} x = go refl x
    where
      go : {t : Took (Maybe A)} → m c.row (stream s c) ≡ t →
          Meets s c b1 b2 (λ (v : Maybe A). (a : A) × (v ≡ one a)) (on d) t →
          Rounded s from b0 d b2 (count + 1) was (every m d.row (stream s d)) × (c.at < d.at)
      go e (stands {rs = rs} {us = us} mv o) =
          another_one d o.0 rs us (e ∙ ap (λ (w : Maybe A). took w rs us) o.1) mv

  pub rounds_done : {b2 : List ℕ} {d : Cursor} →
      Meets s c b1 b2 (λ (v : Maybe A). v ≡ done) (on d) (m c.row (stream s c))
      → Meets s from b0 b2 (λ (xs : List A). count ≡ length xs) (on d) was
  rounds_done {b2} {d} x = go refl x
    where
      go : {t : Took (Maybe A)} → m c.row (stream s c) ≡ t →
          Meets s c b1 b2 (λ (v : Maybe A). v ≡ done) (on d) t →
          Meets s from b0 b2 (λ (xs : List A). count ≡ length xs) (on d) was
      go e (stands {rs = rs} {us = us} mv h) =
          subst⁻¹ (Meets s from b0 b2 (λ (xs : List A). count ≡ length xs) (on d))
          (k.gathering.same
          ∙ ap (gathered k.gathering.got k.gathering.taken)
          (step (e ∙ ap (λ (w : Maybe A). took w rs us) h) ∙
          ap (λ (ps : List ℕ). took [] ps us) (append-nil rs))
          ∙ ap (λ (xs : List A). took xs (k.gathering.taken ++ rs) us) (append-nil k.gathering.got))
          (stands (moved_on k.gathering.moved mv) k.counted)

  pub rounds_refused : {b2 : List ℕ} {sh : Maybe A → Type 0} {n p : ℕ} {sh2 : List A → Type 0} →
      Meets s c b1 b2 sh (no n p) (m c.row (stream s c)) → Meets s from b0 b2 sh2 (no n p) was
  rounds_refused {b2} {sh} {n} {p} {sh2} x = go refl x
    where
      go : {t : Took (Maybe A)} → m c.row (stream s c) ≡ t → Meets s c b1 b2 sh (no n p) t →
          Meets s from b0 b2 sh2 (no n p) was
      go e (refuses qs q) =
          subst⁻¹ (Meets s from b0 b2 sh2 (no n p))
          (k.gathering.same ∙ ap (gathered k.gathering.got k.gathering.taken) (step e))
          (refuses (k.gathering.taken ++ qs) (stored_on qs k.gathering.moved q))
