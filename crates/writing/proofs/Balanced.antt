-- Rows that nest are the rows of their streams; streams of right tokens are rows that nest.
use mathlib.Core.Path.{◌≡◌, refl, ap, ◌∙◌, sym, subst}
use mathlib.Core.Bool.{Bool, true, false, cond, not, ◌&&◌, ◌||◌, beq, false≢true}
use mathlib.Core.List.{List, [], ◌∷◌, ◌++◌, append_assoc, append-nil}
use Prim.Native.Nat.{ℕ, ◌+◌, ◌≤◌, ◌<◌}
use native.Mathlib.Omega.{arith}
use borrow.Author.Tests.{eq-eqb, eqb-true, eqb-false, ltb-true, lt-ltb}
use lib.Dec.{eqb, ltb}
use lib.ListN.{length}
use Rattle.token_list.specs.Byte.{QUOTE}
use Rattle.token_list.specs.Layout.{IDENT, PUNCT, OPEN, CLOSE, marked, first_row, MAX_DEPTH}
use Rattle.token_list.specs.Text as text
use Rattle.token_list.specs.Text.{single, closer}
use Rattle.token_list.specs.Row.{Row, Form, wrong, opens, closed, form_of, first, right_mark}
use Rattle.token_list.specs.Rows.{ident, punct, opening, closing}
use Rattle.token_list.specs.Check.{check, passed, is_row, right, closed_by, enclosing, nested}
use Rattle.token_list.specs.Stream.{Trees, end, leaf, group, Streams, head, others, before, streams, rows_at, at}
use Rattle.token_list.proofs.Passed.{open_form, close-form, right-row, passed_list}
use Rattle.token_list.proofs.Columns.{beq_self}
use Rattle.token_list.proofs.Texts.{chosen, passed_over, and_both, and_parts}
use Rattle.token_list.proofs.Streams.{before-close, before_open, before_leaf}
use Rattle.writing.specs.Rows.{run_rows}
use Rattle.writing.specs.Depth.{depth}
use Rattle.writing.proofs.Joined.{token, token_kinds, tokens, joined}

-- ## Marks

-- only punctuation has one
no_mark : (m : Bool) (r : Row) → right_mark m r ≡ true → eqb r.kind PUNCT ≡ false → r.joint ≡ false
no_mark true r e k = go r.joint (sym (ap (λ (b : Bool). not r.joint || b) k) ∙ e)
  where
    go : (j : Bool) → (not j || false) ≡ true → j ≡ false
    go true e = sym e
    go false e = refl
no_mark false r e k =
    go r.joint (sym (ap (λ (b : Bool). beq r.joint (b && eqb (first r.text) QUOTE)) k) ∙ e)
  where
    go : (j : Bool) → beq j false ≡ true → j ≡ false
    go true e = sym e
    go false e = refl

unmarked-right : (m : Bool) (k : ℕ) (t : List ℕ) → eqb k PUNCT ≡ false
    → right_mark m (record { kind = k; joint = false; text = t }) ≡ true
unmarked-right true k t e = refl
unmarked-right false k t e = ap (λ (b : Bool). beq false (b && eqb (first t) QUOTE)) e

pub ident_mark : (m : Bool) (t : List ℕ) → right_mark m (ident t) ≡ true
ident_mark m t = unmarked-right m IDENT t refl

pub punct_mark : (m : Bool) (b : ℕ) → right_mark m (punct b) ≡ true
punct_mark true b = go (eqb b QUOTE)
  where
    go : (j : Bool) → (not j || true) ≡ true
    go true = refl
    go false = refl
punct_mark false b = beq_self (eqb b QUOTE)

-- ## Texts of one byte

-- a text of one byte that passes the test
single-text : (p : ℕ → Bool) (t : List ℕ) → single p t ≡ true → (t ≡ first t ∷ []) × (p (first t) ≡ true)
single-text p [] e = absurd (false≢true e)
single-text p (b ∷ []) e = (refl, e)
single-text p (b ∷ c ∷ t) e = absurd (false≢true e)

row_of : (p : ℕ → Bool) (f : ℕ → Form) (t : List ℕ) → is_row (cond (single p t) (f (first t)) wrong) ≡ true
    → single p t ≡ true
row_of p f t e = go (single p t) e
  where
    go : (b : Bool) → is_row (cond b (f (first t)) wrong) ≡ true → b ≡ true
    go true e = refl
    go false e = e

same_row : (r : Row) {k : ℕ} {t : List ℕ} → r.kind ≡ k → r.joint ≡ false → r.text ≡ t
    → r ≡ record { kind = k; joint = false; text = t }
same_row r e j f = λ i. record { kind = e i; joint = j i; text = f i }

closer-closes : (d : ℕ) → text.opening d ≡ true → text.closing (closer d) ≡ true
closer-closes d = go (eqb d 40) (eqb d 91) (eqb d 123) (eqb d 48) refl refl refl refl
  where
    of : (x : ℕ) → eqb d x ≡ true → text.closing (closer x) ≡ true → text.closing (closer d) ≡ true
    of x e h = subst (λ (y : ℕ). text.closing (closer y) ≡ true) (sym (eqb-true d x e)) h

    go : (a b c f : Bool) → eqb d 40 ≡ a → eqb d 91 ≡ b → eqb d 123 ≡ c → eqb d 48 ≡ f
        → (a || (b || (c || (f || false)))) ≡ true → text.closing (closer d) ≡ true
    go true b c f i j k l e = of 40 i refl
    go false true c f i j k l e = of 91 j refl
    go false false true f i j k l e = of 123 k refl
    go false false false true i j k l e = of 48 l refl
    go false false false false i j k l e = absurd (false≢true e)

-- with marks or without
module _ (m : Bool) where
  -- ## Right tokens and delimiters

  abbrev pub sound : Trees → Bool
  sound end = true
  sound (leaf r us) = (token r && right m r) && sound us
  sound (group d ts us) = text.opening d && (sound ts && sound us)

  pub sound_tokens : (ts : Trees) → sound ts ≡ true → tokens ts ≡ true
  sound_tokens end e = refl
  sound_tokens (leaf r us) e =
      let p = and_parts (token r && right m r) (sound us) e in
      and_both _ _ (and_parts (token r) (right m r) p.0).0 (sound_tokens us p.1)
  sound_tokens (group d ts us) e =
      let p = and_parts (sound ts) (sound us) (and_parts (text.opening d) _ e).1 in
      and_both _ _ (sound_tokens ts p.0) (sound_tokens us p.1)

  pub sound_joined : (ts us : Trees) → sound (joined ts us) ≡ true → (sound ts ≡ true) × (sound us ≡ true)
  sound_joined end us e = (refl, e)
  sound_joined (leaf r ts) us e =
      let p = and_parts (token r && right m r) _ e in
      let q = sound_joined ts us p.1 in
      (and_both _ _ p.0 q.0, q.1)
  sound_joined (group d ts vs) us e =
      let p = and_parts (text.opening d) _ e in
      let i = and_parts (sound ts) _ p.1 in
      let q = sound_joined vs us i.1 in
      (and_both _ _ p.0 (and_both _ _ i.0 q.0), q.1)

  opening-row : (r : Row) → right m r ≡ true → eqb r.kind OPEN ≡ true
      → (r ≡ opening (first r.text)) × (text.opening (first r.text) ≡ true)
  opening-row r e o =
      let h = right-row m r e in
      let s = row_of text.opening opens r.text (sym (ap is_row (open_form r.kind r.text o)) ∙ h.formed) in
      let t = single-text text.opening r.text s in
      let kind = eqb-true _ _ o in
      (same_row r kind (no_mark m r h.mark (ap (λ (k : ℕ). eqb k PUNCT) kind)) t.0, t.1)

  closing-row : (r : Row) (d : ℕ) → right m r ≡ true → eqb r.kind CLOSE ≡ true
      → eqb (closer d) (first r.text) ≡ true
      → r ≡ closing d
  closing-row r d e c own =
      let h = right-row m r e in
      let s = row_of text.closing closed r.text (sym (ap is_row (close-form r.kind r.text c)) ∙ h.formed) in
      let t = single-text text.closing r.text s in
      let kind = eqb-true _ _ c in
      same_row r kind (no_mark m r h.mark (ap (λ (k : ℕ). eqb k PUNCT) kind))
      (t.0 ∙ ap (λ (b : ℕ). b ∷ []) (sym (eqb-true _ _ own)))

  -- ## Rows that nest, by the streams that they are

  -- the streams around, each behind the close of its group
  abbrev closers : List ℕ → List Trees → List Row
  closers [] ts = []
  closers (d ∷ ds) [] = []
  closers (d ∷ ds) (t ∷ ts) = closing d ∷ run_rows t ++ closers ds ts

  -- a stream for each group that is open, of right tokens, and as deep as may be
  data Around : List ℕ → List Trees → Type 0 where
    none : Around [] []
    one : {d : ℕ} {ds : List ℕ} {t : Trees} {ts : List Trees} → sound t ≡ true → length ds + depth t ≤ MAX_DEPTH
        → Around ds ts → Around (d ∷ ds) (t ∷ ts)

  record Unwound (ds : List ℕ) (rs : List Row) (st : Streams) : Type 0 where
    rows : rs ≡ run_rows st.here ++ closers ds st.outer
    right : sound st.here ≡ true
    deep : length ds + depth st.here ≤ MAX_DEPTH
    around : Around ds st.outer

  module _ (rs : List Row) (ds : List ℕ) where
    unwound_open : (d : ℕ) (here : Trees) (outer : List Trees) → length ds < MAX_DEPTH → text.opening d ≡ true
        → Around (d ∷ ds) outer → Unwound (d ∷ ds) rs (record { here = here; outer = outer })
        → Unwound ds (opening d ∷ rs) (record { here = group d here (head outer); outer = others outer })
    unwound_open d here outer l o (one {t = t} {ts = ts} s p a) u =
        record {
          rows = ap (λ (qs : List Row). opening d ∷ qs)
              (u.rows ∙ sym (append_assoc (run_rows here) (closing d ∷ run_rows t) (closers ds ts)));
          right = and_both _ _ o (and_both _ _ u.right s);
          deep = omega (arith, u.deep);
          around = a;
        }

    unwound_close : (d : ℕ) (st : Streams) → length (d ∷ ds) ≤ MAX_DEPTH → Unwound ds rs st
        → Unwound (d ∷ ds) (closing d ∷ rs) (record { here = end; outer = st.here ∷ st.outer })
    unwound_close d st l u = record {
      rows = ap (λ (qs : List Row). closing d ∷ qs) u.rows;
      right = refl;
      deep = omega arith;
      around = one u.right u.deep u.around;
    }

    unwound_leaf : (r : Row) (st : Streams) → token r ≡ true → right m r ≡ true → Unwound ds rs st
        → Unwound ds (r ∷ rs) (record { here = leaf r st.here; outer = st.outer })
    unwound_leaf r st t e u = record {
      rows = ap (λ (qs : List Row). r ∷ qs) u.rows;
      right = and_both _ _ (and_both _ _ t e) u.right;
      deep = u.deep;
      around = u.around;
    }

  module _ (rs : List Row)
      (ih : (ds : List ℕ) → length ds ≤ MAX_DEPTH → nested m ds rs ≡ true → Unwound ds rs (streams rs)) where
    -- a closing row, by the groups that are open
    close_row : (ds : List ℕ) (r : Row) → length ds ≤ MAX_DEPTH → right m r ≡ true → eqb r.kind CLOSE ≡ true
        → (closed_by ds (first r.text) && nested m (enclosing ds) rs) ≡ true
        → Unwound ds (r ∷ rs) (record { here = end; outer = (streams rs).here ∷ (streams rs).outer })
    close_row [] r l f c e = absurd (false≢true e)
    close_row (d ∷ ds) r l f c e =
        let p = and_parts (eqb (closer d) (first r.text)) _ e in
        let shut : Streams = record { here = end; outer = (streams rs).here ∷ (streams rs).outer } in
        subst (λ (q : Row). Unwound (d ∷ ds) (q ∷ rs) shut) (sym (closing-row r d f c p.0))
        (unwound_close rs ds d (streams rs) l (ih ds (omega arith) p.1))

    unwound_row : (ds : List ℕ) (r : Row) → length ds ≤ MAX_DEPTH → nested m ds (r ∷ rs) ≡ true
        → Unwound ds (r ∷ rs) (streams (r ∷ rs))
    unwound_row ds r l e = kind (eqb r.kind OPEN) (eqb r.kind CLOSE) refl refl
      where
        form : right m r ≡ true
        form = (and_parts (right m r) _ e).0

        kind : (o c : Bool) → eqb r.kind OPEN ≡ o → eqb r.kind CLOSE ≡ c
            → Unwound ds (r ∷ rs) (before r (streams rs))
        kind true c a b =
            let d = first r.text in
            let p = and_parts (ltb (length ds) MAX_DEPTH) _ (sym (chosen _ _ _ a) ∙ (and_parts (right m r) _ e).1) in
            let free = ltb-true (length ds) MAX_DEPTH p.0 in
            let u = ih (d ∷ ds) (omega (arith, free)) p.1 in
            let q = opening-row r form a in
            let st : Streams = record {
              here = group d (streams rs).here (head (streams rs).outer);
              outer = others
                  (streams rs).outer;
            } in
            subst (λ (x : Streams). Unwound ds (r ∷ rs) x) (sym (before_open r (streams rs) (eqb-true _ _ a)))
            (subst (λ (x : Row). Unwound ds (x ∷ rs) st) (sym q.0)
            (unwound_open rs ds d (streams rs).here (streams rs).outer free q.1 u.around u))
        kind false true a b =
            subst (λ (x : Streams). Unwound ds (r ∷ rs) x) (sym (before-close r (streams rs) (eqb-true _ _ b)))
            (close_row ds r l form b (sym (passed_over _ _ _ a ∙ chosen _ _ _ b) ∙ (and_parts (right m r) _ e).1))
        kind false false a b =
            subst (λ (x : Streams). Unwound ds (r ∷ rs) x)
            (sym (before_leaf r (streams rs) (eqb-false _ _ a) (eqb-false _ _ b)))
            (unwound_leaf rs ds r (streams rs) (and_both _ _ (ap not a) (ap not b)) form
            (ih ds l (sym (passed_over _ _ _ a ∙ passed_over _ _ _ b) ∙ (and_parts (right m r) _ e).1)))

  unwound : (rs : List Row) (ds : List ℕ) → length ds ≤ MAX_DEPTH → nested m ds rs ≡ true → Unwound ds rs (streams rs)
  unwound [] [] l e = record { rows = refl; right = refl; deep = omega arith; around = none }
  unwound [] (d ∷ ds) l e = absurd (false≢true e)
  unwound (r ∷ rs) ds l e = unwound_row rs (unwound rs) ds r l e

  -- the first stream's rows stand first
  pub rows_here : (rs : List Row) (ds : List ℕ) → length ds ≤ MAX_DEPTH → nested m ds rs ≡ true
      → (qs : List Row) × (rs ≡ run_rows (streams rs).here ++ qs)
  rows_here rs ds l e = (closers ds (streams rs).outer, (unwound rs ds l e).rows)

  -- ## Streams of right tokens, by their rows

  single-right : (k d : ℕ) → eqb k PUNCT ≡ false → is_row (form_of k (d ∷ [])) ≡ true
      → right m (record { kind = k; joint = false; text = d ∷ [] }) ≡ true
  single-right k d e f = and_both _ _ f (unmarked-right m k (d ∷ []) e)

  opening-right : (d : ℕ) → text.opening d ≡ true → right m (opening d) ≡ true
  unfolding form_of
  opening-right d e = single-right OPEN d refl (ap (λ (b : Bool). is_row (cond b (opens d) wrong)) e)

  closing-right : (d : ℕ) → text.opening d ≡ true → right m (closing d) ≡ true
  unfolding form_of
  closing-right d e = single-right CLOSE (closer d) refl
      (ap (λ (b : Bool). is_row (cond b (closed (closer d)) wrong)) (closer-closes d e))

  pub nests : (ts : Trees) (ds : List ℕ) (rs : List Row) → sound ts ≡ true → length ds + depth ts ≤ MAX_DEPTH
      → nested m ds rs ≡ true → nested m ds (run_rows ts ++ rs) ≡ true
  nests end ds rs e l h = h
  nests (leaf r us) ds rs e l h =
      let p = and_parts (token r && right m r) (sound us) e in
      let q = and_parts (token r) (right m r) p.0 in
      let k = token_kinds r q.0 in
      and_both _ _ q.1 (passed_over _ _ _ k.0 ∙ passed_over _ _ _ k.1 ∙ nests us ds rs p.1 l h)
  nests (group d ts us) ds rs e l h =
      let p = and_parts (text.opening d) _ e in
      let q = and_parts (sound ts) (sound us) p.1 in
      let rest = nests us ds rs q.1 (omega arith) h in
      let shut : nested m (d ∷ ds) (closing d ∷ run_rows us ++ rs) ≡ true =
      and_both _ _ (closing-right d p.0) (and_both _ _ (eq-eqb (closer d) (closer d) refl) rest) in
      let inside = nests ts (d ∷ ds) (closing d ∷ run_rows us ++ rs) q.0 (omega arith) shut in
      let rows = append_assoc (run_rows ts) (closing d ∷ run_rows us) rs in
      and_both _ _ (opening-right d p.0) (and_both _ _ (lt-ltb (length ds) MAX_DEPTH (omega arith))
      (subst (λ (qs : List Row). nested m (d ∷ ds) qs ≡ true) (sym rows) inside))

-- ## A list that passes the check

pub record ListStream (s : List ℕ) : Type 0 where
  pub rows : rows_at s (first_row s) ≡ run_rows (at s (first_row s)).here
  pub right : sound (marked s) (at s (first_row s)).here ≡ true
  pub deep : depth (at s (first_row s)).here ≤ MAX_DEPTH

pub list_stream : (s : List ℕ) {n : ℕ} → check s ≡ passed n → ListStream s
unfolding at
list_stream s {n} c =
    let u = unwound (marked s) (rows_at s (first_row s)) [] (omega arith) (passed_list s n c).nested in
    record { rows = u.rows ∙ append-nil _; right = u.right; deep = omega (arith, u.deep) }
