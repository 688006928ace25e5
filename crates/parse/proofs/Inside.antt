-- Laws on what a reader gives at a cursor, and on reading it there again.
use mathlib.Core.Path.{◌≡◌, refl, ap, ◌∙◌, sym, subst, subst⁻¹}
use mathlib.Core.Bool.{true, false}
use mathlib.Core.List.{List, [], ◌∷◌}
use Prim.Native.Nat.{ℕ, ◌+◌, ◌<◌}
use native.Mathlib.Omega.{arith}
use Rattle.token_list.specs.Byte.{LESS}
use Rattle.token_list.specs.Stream.{Trees, at}
use Rattle.token_list.specs.Contract.{InList, LeafAt}
use Rattle.token_list.specs.declared.check.Cursor.{Cursor}
use Rattle.token_list.specs.declared.stream.Token.{Token}
use Rattle.token_list.proofs.Texts.{chosen}
use Rattle.reading.specs.Role as role
use Rattle.reading.specs.Declaration.{Parameter, Generics, without, angled, parameters_of}
use Rattle.reading.specs.Took.{Took, took, Cause, stopped, Reader, onward, after, pure}
use Rattle.reading.specs.Token.{starts}
use Rattle.reading.specs.Reading.{Maybe, done, one, more, every, is_punct, parameter, generics}
use Rattle.reading.proofs.Rounds.{Rounding, Round, every-step}
use Rattle.parse.specs.Contract.{Moved, on, no, Meets, stands, refuses, stream, past_of, InsideAt}
use Rattle.parse.proofs.Meeting.{past_in, stands-row}
use Rattle.parse.proofs.Looks.{no_generics}

-- ## What an answer tells

pub meets_tells : {A : Type 0} {s : List ℕ} {c d : Cursor} {b0 b1 : List ℕ} {sh : A → Type 0} {t : Took A} →
    Meets s c b0 b1 sh (on d) t
    → (a : A) × (rs : List ℕ) × (us : Trees) × (t ≡ took a rs us) × sh a
meets_tells (stands {a = a} {rs = rs} {us = us} m h) = (a, rs, us, refl, h)

pub meets_refusal : {A : Type 0} {s : List ℕ} {c : Cursor} {b0 b1 : List ℕ} {sh : A → Type 0} {n p : ℕ} {t : Took A} →
    Meets s c b0 b1 sh (no n p) t → (w : Cause) × (t ≡ stopped w n p)
meets_refusal (refuses {w = w} qs q) = (w, refl)

abbrev value : {A : Type 0} → A → Took A → A
value a (took b rs us) = b
value a (stopped w n p) = a

abbrev accepted : {A : Type 0} → Took A → Type 0
accepted (took a rs us) = Unit {0}
accepted (stopped w n p) = ⊥

pub took_not_refuse : {A B : Type 0} {a : A} {rs : List ℕ} {us : Trees} {w : Cause} {n p : ℕ} →
    stopped w n p ≡ took a rs us → B
took_not_refuse e = absurd (subst⁻¹ accepted e tt)

pub took_value : {A : Type 0} {a b : A} {rs qs : List ℕ} {us vs : Trees} → took a rs us ≡ took b qs vs → a ≡ b
took_value {a = a} e = ap (value a) e

-- a second reading refuses nothing
pub inside-stands : {A B : Type 0} (m : Reader A) {s : List ℕ} {c : Cursor} {a : A} {b0 b1 : List ℕ} {sh : A → Type 0}
    {n p : ℕ} → InsideAt m s c a
    → Meets s c b0 b1 sh (no n p) (m c.row (stream s c)) → B
inside-stands {A} {B} m {s} {c} {a} {b0} {b1} {sh} {n} {p} k w = go refl w
  where
    go : {t : Took A} → m c.row (stream s c) ≡ t → Meets s c b0 b1 sh (no n p) t → B
    go e (refuses qs q) = took_not_refuse (sym e ∙ k.gives)

-- ## A reader that goes round

-- one thing was read at c, and the others are read at d
pub record OneAt {A : Type 0} (m : Reader (Maybe A)) (s : List ℕ) (d : Cursor) (told : A → Type 0)
    (xs : List A) : Type 0 where
  pub first : A
  pub others : List A
  pub shown : told first
  pub split : xs ≡ first ∷ others
  pub inside : InsideAt (every m) s d others

module _ {A : Type 0} (m : Reader (Maybe A)) (rd : Rounding m) {s : List ℕ} {c : Cursor} where
  again : {xs : List A} {t : Took (Maybe A)} (k : InsideAt (every m) s c xs) → m c.row (stream s c) ≡ t →
      after c.row t (more (every m)) ≡ took xs k.roles k.rest
  again k e = ap (λ (u : Took (Maybe A)). after c.row u (more (every m))) (sym e) ∙
      sym (every-step m rd c.row (stream s c)) ∙ k.gives

  pub inside-more : {xs : List A} {b0 b1 : List ℕ} {sh : Maybe A → Type 0} {told : A → Type 0} {d : Cursor} →
      InsideAt (every m) s c xs
      → Meets s c b0 b1 sh (on d) (m c.row (stream s c)) → ((v : Maybe A) → sh v → (a : A) × (v ≡ one a) × told a) →
      OneAt m s d told xs
  inside-more {xs} {b0} {b1} {sh} {told} {d} k w f = go refl w
    where
      rest : (a : A) (rs : List ℕ) (us : Trees) → told a → Moved s c d rs us b0 b1 → (t : Took (List A)) →
          every m d.row (stream s d) ≡ t
          → onward rs (after d.row t (λ xs. pure (a ∷ xs))) ≡ took xs k.roles k.rest → OneAt m s d told xs
      rest a rs us h mv (took ys qs vs) g e =
          record {
            first = a;
            others = ys;
            shown = h;
            split = sym (took_value e);
            inside = record {
              in_list = mv.in_list;
              roles = qs;
              rest = vs;
              gives = g;
            };
          }
      rest a rs us h mv (stopped w n p) g e = took_not_refuse e

      go : {t : Took (Maybe A)} → m c.row (stream s c) ≡ t → Meets s c b0 b1 sh (on d) t → OneAt m s d told xs
      go e (stands {a = v} {rs = rs} {us = us} mv h) =
          let o = f v h in
          let a = o.0 in
          rest a rs us o.2 mv (every m d.row (stream s d)) refl
          ((λ i. onward rs (after (mv.row i) (every m (mv.row i) (mv.here i)) (λ xs. pure (a ∷ xs)))) ∙
          again k (e ∙ ap (λ (w : Maybe A). took w rs us) o.1))

  pub inside_done : {xs : List A} {b0 b1 : List ℕ} {sh : Maybe A → Type 0} {d : Cursor} → InsideAt (every m) s c xs →
      Meets s c b0 b1 sh (on d) (m c.row (stream s c))
      → ((v : Maybe A) → sh v → v ≡ done) → xs ≡ []
  inside_done {xs} {b0} {b1} {sh} {d} k w f = go refl w
    where
      go : {t : Took (Maybe A)} → m c.row (stream s c) ≡ t → Meets s c b0 b1 sh (on d) t → xs ≡ []
      go e (stands {a = v} {rs = rs} {us = us} mv h) =
          sym (took_value (again k (e ∙ ap (λ (w : Maybe A). took w rs us) (f v h))))

  pub inside_refused : {B : Type 0} {xs : List A} {b0 b1 : List ℕ} {sh : Maybe A → Type 0} {n p : ℕ} →
      InsideAt (every m) s c xs
      → Meets s c b0 b1 sh (no n p) (m c.row (stream s c)) → B
  inside_refused {B} {xs} {b0} {b1} {sh} {n} {p} k w = go refl w
    where
      go : {t : Took (Maybe A)} → m c.row (stream s c) ≡ t → Meets s c b0 b1 sh (no n p) t → B
      go e (refuses qs q) = took_not_refuse (again k e)

-- a step goes forward
pub forward : {A : Type 0} (m : Reader (Maybe A)) (rd : Rounding m) {s : List ℕ} {c d : Cursor} {b0 b1 : List ℕ}
    {sh : Maybe A → Type 0} {told : A → Type 0}
    → Meets s c b0 b1 sh (on d) (m c.row (stream s c)) → ((v : Maybe A) → sh v → (a : A) × (v ≡ one a) × told a) →
    (c.at < d.at) × InList s d
forward {A} m rd {s} {c} {d} {b0} {b1} {sh} w f = go refl w
  where
    go : {t : Took (Maybe A)} → m c.row (stream s c) ≡ t → Meets s c b0 b1 sh (on d) t → (c.at < d.at) × InList s d
    go e (stands {a = v} {rs = rs} {us = us} mv h) =
        let o = f v h in
        let p = (subst (Round (stream s c)) (e ∙ ap (λ (w : Maybe A). took w rs us) o.1)
        (rd c.row (stream s c))).1 in
        (omega (arith, mv.forth, p), mv.in_list)

-- ## Generics

module _ {s : List ℕ} {c : Cursor} {v : Generics} (i : InsideAt generics s c v) where
  -- the parameters after a `<`
  pub generics-angle : (t : Token) (d : Cursor) → LeafAt s c.at t → d ≡ past_of c t →
      starts (is_punct LESS) (stream s c) ≡ true
      → (v ≡ angled (parameters_of v)) × InsideAt (every (parameter c.row)) s d (parameters_of v)
  generics-angle t d l e p =
      go (inside (c.row + 1) (at s t.next).here) refl
      (sym (chosen _ _ _ (stands-row LESS l p)) ∙ ap (generics c.row) (sym l.here) ∙ i.gives)
    where
      inside : Reader (List Parameter)
      inside = every (parameter c.row)

      go : (x : Took (List Parameter)) → inside (c.row + 1) (at s t.next).here ≡ x
          → onward (role.angle ∷ []) (after (c.row + 1) x (λ ps. pure (angled ps))) ≡ took v i.roles i.rest
          → (v ≡ angled (parameters_of v)) × InsideAt inside s d (parameters_of v)
      go (took ys qs ws) g h =
          let same : angled ys ≡ v = took_value h in (
            sym same ∙ ap (λ (x : Generics). angled (parameters_of x)) same,
            subst⁻¹ (λ (x : Cursor). InsideAt inside s x (parameters_of v)) e
                (record {
                  in_list = past_in s c t i.in_list l.token;
                  roles = qs;
                  rest = ws;
                  gives = g ∙ ap (λ (zs : List Parameter). took zs qs ws) (ap parameters_of same);
                }),
          )
      go (stopped w n p) g h = took_not_refuse h

  pub generics-none : starts (is_punct LESS) (stream s c) ≡ false → v ≡ without
  generics-none e = sym (took_value (sym (no_generics c.row (stream s c) e) ∙ i.gives))
