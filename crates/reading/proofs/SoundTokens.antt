-- What a reader takes, the role grammar admits, with the same roles: runs, attributes, visibility and words.
use mathlib.Core.Path.{◌≡◌, refl, ap, ◌∙◌, sym, subst}
use mathlib.Core.Bool.{Bool, true, false, cond, not, ◌&&◌, ◌||◌, false≢true}
use mathlib.Core.List.{List, [], ◌∷◌, ◌++◌, append-nil}
use Prim.Native.Nat.{ℕ, ◌+◌, ◌-◌}
use lib.Dec.{eqb}
use lib.ListN.{length}
use Rattle.token_list.specs.Layout.{PUNCT}
use Rattle.token_list.specs.Byte.{BRACKET, COMMA, GREATER, HASH, LESS, MINUS}
use Rattle.token_list.specs.Text.{same}
use Rattle.token_list.specs.Row.{Row, first}
use Rattle.token_list.specs.Stream.{Trees, end, leaf, group}
use Rattle.token_list.proofs.Texts.{and_both, and_last, and_fails}
use Rattle.reading.specs.Role as role
use Rattle.reading.specs.Token.{is_ident, is_punct, is_word, copied, lone, PUB, STRUCT, ENUM, Stops, stopping}
use Rattle.reading.specs.Grammar as g
use Rattle.reading.specs.Grammar.{everything}
use Rattle.reading.specs.Declaration.{Kind, struct, enum}
use Rattle.reading.specs.Took.{Took, took, Cause, stopped, refuse, Reader, onward, after, ◌>>=◌, pure}
use Rattle.reading.specs.Reading as r
use Rattle.reading.specs.Reading.{Word, missing, found, RunEnd, belongs, ends, unopened}

-- what holds of the value, the roles and the rest, where a reader takes
pub data Sound {A : Type 0} (N : A → List ℕ → Trees → Type 0) : Took A → Type 0 where
  met : {a : A} (rs : List ℕ) (us : Trees) → N a rs us → Sound N (took a rs us)
  refused : {w : Cause} {n p : ℕ} → Sound N (stopped w n p)

pub met_by : {A : Type 0} {N : A → List ℕ → Trees → Type 0} {a : A} {rs : List ℕ} {us : Trees} →
    Sound N (took a rs us) → N a rs us
met_by (met rs us h) = h

pub choice : {A : Type 0} {N : A → List ℕ → Trees → Type 0} {t u : Took A} (b : Bool) → (b ≡ true → Sound N t) →
    (b ≡ false → Sound N u) → Sound N (cond b t u)
choice true f k = f refl
choice false f k = k refl

pub onward_met : {A : Type 0} {N M : A → List ℕ → Trees → Type 0} {t : Took A} (rs : List ℕ) → Sound N t
    → ((a : A) (qs : List ℕ) (us : Trees) → N a qs us → M a (rs ++ qs) us) → Sound M (onward rs t)
onward_met rs (met qs us h) k = met (rs ++ qs) us (k _ qs us h)
onward_met rs refused k = refused

pub onward_still : {A : Type 0} {M : A → List ℕ → Trees → Type 0} {t : Took A} (rs : List ℕ) →
    Sound (λ a qs us. M a (rs ++ qs) us) t → Sound M (onward rs t)
onward_still rs (met qs us h) = met (rs ++ qs) us h
onward_still rs refused = refused

pub after_met : {A B : Type 0} {N : A → List ℕ → Trees → Type 0} {M : B → List ℕ → Trees → Type 0} {t : Took A}
    {f : A → Reader B} (row : ℕ) → Sound N t
    → ((a : A) (rs : List ℕ) (us : Trees) → N a rs us → (row : ℕ) → Sound (λ b qs vs. M b (rs ++ qs) vs) (f a row us)) →
    Sound M (after row t f)
after_met row (met {a = a} rs us h) k = onward_still rs (k a rs us h (row + length rs))
after_met row refused k = refused

-- the value made into another
pub pure_met : {A B : Type 0} {P : List ℕ → Trees → Type 0} {t : Took A} (row : ℕ) (f : A → B) →
    Sound (λ x rs us. P rs us) t
    → Sound (λ x rs us. P rs us) (after row t (λ a. pure (f a)))
pure_met row f (met rs us h) = met (rs ++ []) us (rw append-nil h)
pure_met row f refused = refused

-- ## Runs

module _ (st : Stops) (n depth : ℕ) (q : Row) (us : Trees) where
  ordinary_by : {k lt gt co z cm : Bool} → eqb q.kind PUNCT ≡ k → eqb (first q.text) LESS ≡ lt →
      eqb (first q.text) GREATER ≡ gt
      → eqb (first q.text) COMMA ≡ co → eqb depth 0 ≡ z → st.comma ≡ cm
      → g.ordinary st depth q ≡ not (k && lt || k && gt || k && co && (z && cm))
  ordinary_by a b c d e f = λ i. not (a i && b i || a i && c i || a i && d i && (e i && f i))

  -- a token that is neither `<` nor `>`
  run-rest : (minus co z cm : Bool) (row : ℕ) (go : ℕ → Bool → Took RunEnd)
      → ((e : ℕ) (m : Bool) → Sound (λ x rs vs. g.Run everything st n e m us vs rs) (go e m))
      → eqb q.kind PUNCT ≡ true → eqb (first q.text) LESS ≡ false → eqb (first q.text) GREATER ≡ false →
      eqb (first q.text) COMMA ≡ co
      → eqb depth 0 ≡ z → st.comma ≡ cm
      → Sound (λ x rs vs. g.Run everything st n depth minus (leaf q us) vs rs)
      (r.judged depth (cond (co && (z && cm)) (ends r.at_comma) (belongs depth (eqb (first q.text) MINUS)))
      (λ e m. onward (n ∷ []) (go e m)) (leaf q us) row)
  run-rest minus co z cm row go ih a b c d e f = by co z cm d e f
    where
      belonging : {co z cm : Bool} → eqb (first q.text) COMMA ≡ co → eqb depth 0 ≡ z → st.comma ≡ cm →
          (co && (z && cm)) ≡ false
          → Sound (λ x rs vs. g.Run everything st n depth minus (leaf q us) vs rs)
          (onward (n ∷ []) (go depth (eqb (first q.text) MINUS)))
      belonging d e f x =
          onward_met (n ∷ []) (ih depth (eqb (first q.text) MINUS))
          (λ y rs vs t. g.Run.token (ordinary_by a b c d e f ∙ ap not x)
          (subst (λ (m : Bool). g.Run everything st n depth m us vs rs) (sym (and_last _ _ a)) t))

      by : (co z cm : Bool) → eqb (first q.text) COMMA ≡ co → eqb depth 0 ≡ z → st.comma ≡ cm
          → Sound (λ x rs vs. g.Run everything st n depth minus (leaf q us) vs rs)
          (r.judged depth (cond (co && (z && cm)) (ends r.at_comma) (belongs depth (eqb (first q.text) MINUS)))
          (λ e m. onward (n ∷ []) (go e m)) (leaf q us) row)
      by true true true d e f = met [] (leaf q us) (g.Run.comma (and_both _ _ a d) e f)
      by true true false d e f = belonging d e f refl
      by true false cm d e f = belonging d e f refl
      by false z cm d e f = belonging d e f refl

  run_leaf : (minus : Bool) (row : ℕ) (go : ℕ → Bool → Took RunEnd)
      → ((e : ℕ) (m : Bool) → Sound (λ x rs vs. g.Run everything st n e m us vs rs) (go e m))
      → Sound (λ x rs vs. g.Run everything st n depth minus (leaf q us) vs rs)
      (r.judged depth (r.judge st depth minus q) (λ e m. onward (n ∷ []) (go e m)) (leaf q us) row)
  run_leaf minus row go ih =
      by (eqb q.kind PUNCT) minus (eqb (first q.text) LESS) (eqb (first q.text) GREATER)
      (eqb (first q.text) COMMA)
      (eqb depth 0) st.comma st.angle refl refl refl refl refl refl refl
    where
      by : (k minus lt gt co z cm ang : Bool) → eqb q.kind PUNCT ≡ k → eqb (first q.text) LESS ≡ lt →
          eqb (first q.text) GREATER ≡ gt
          → eqb (first q.text) COMMA ≡ co → eqb depth 0 ≡ z → st.comma ≡ cm → st.angle ≡ ang
          → Sound (λ x rs vs. g.Run everything st n depth minus (leaf q us) vs rs)
          (r.judged depth (cond k (cond (minus && gt) (belongs depth false)
          (cond lt (belongs (depth + 1) false) (cond gt
          (cond z (cond ang (ends r.at_angle) unopened) (belongs (depth - 1) false))
          (cond (co && (z && cm)) (ends r.at_comma) (belongs depth (eqb (first q.text) MINUS))))))
          (belongs depth false))
          (λ e m. onward (n ∷ []) (go e m)) (leaf q us) row)
      by false minus lt gt co z cm ang a b c d e f h =
          onward_met (n ∷ []) (ih depth false) (λ x rs vs t. g.Run.token (ordinary_by a b c d e f)
          (subst (λ (m : Bool). g.Run everything st n depth m us vs rs) (sym (and_fails _ _ a)) t))
      by true true lt true co z cm ang a b c d e f h =
          onward_met (n ∷ []) (ih depth false) (λ x rs vs t. g.Run.arrow (and_both _ _ a c) t)
      by true true true false co z cm ang a b c d e f h =
          onward_met (n ∷ []) (ih (depth + 1) false) (λ x rs vs t. g.Run.deeper (and_both _ _ a b) t)
      by true true false false co z cm ang a b c d e f h = run-rest true co z cm row go ih a b c d e f
      by true false true gt co z cm ang a b c d e f h =
          onward_met (n ∷ []) (ih (depth + 1) false) (λ x rs vs t. g.Run.deeper (and_both _ _ a b) t)
      by true false false true co true cm true a b c d e f h = met [] (leaf q us) (g.Run.angle (and_both _ _ a c) e h)
      by true false false true co true cm false a b c d e f h = refused
      by true false false true co false cm ang a b c d e f h =
          onward_met (n ∷ []) (ih (depth - 1) false) (λ x rs vs t. g.Run.back (and_both _ _ a c) e t)
      by true false false false co z cm ang a b c d e f h = run-rest false co z cm row go ih a b c d e f

pub run_from_sound : (st : Stops) (n depth : ℕ) (minus : Bool) (row : ℕ) (ts : Trees)
    → Sound (λ x rs us. g.Run everything st n depth minus ts us rs) (r.run_from st n depth minus row ts)
run_from_sound st n depth minus row end = met [] end (g.Run.ended refl)
run_from_sound st n depth minus row (leaf q us) =
    run_leaf st n depth q us minus row (λ e m. r.run_from st n e m (row + 1) us)
    (λ e m. run_from_sound st n e m (row + 1) us)
run_from_sound st n depth minus row (group d ts us) =
    choice (stopping st depth d) (λ e. met [] (group d ts us) (g.Run.stop e))
    (λ e. onward_met (copied n ts) (run_from_sound st n depth false (row + r.group_size ts) us)
    (λ x rs vs t. g.Run.inside e t))

kept_met : {P : List ℕ → Trees → Type 0} {t : Took RunEnd} (ts : Trees) → Sound (λ x rs us. P rs us) t →
    Sound (λ x rs us. P rs us) (r.kept ts t)
kept_met ts (met rs us h) = met rs us h
kept_met ts refused = refused

pub run_sound : (st : Stops) (n row : ℕ) (ts : Trees) →
    Sound (λ x rs us. g.Run everything st n 0 false ts us rs) (r.run st n row ts)
run_sound st n row ts =
    kept_met {P = λ rs us. g.Run everything st n 0 false ts us rs} ts (run_from_sound st n 0 false row ts)

-- ## Attributes and visibility

mutual
  pub attributes_sound : (row : ℕ) (ts : Trees) → Sound (λ x rs us. g.Attributes everything ts us rs)
      (r.attributes row ts)
  attributes_sound row end = met [] end (g.Attributes.none refl)
  attributes_sound row (group d ts us) = met [] (group d ts us) (g.Attributes.none refl)
  attributes_sound row (leaf q us) =
      choice (is_punct HASH q) (λ e. after_hash_sound row q us e) (λ e. met [] (leaf q us) (g.Attributes.none e))

  after_hash_sound : (row : ℕ) (q : Row) (us : Trees) → is_punct HASH q ≡ true →
      Sound (λ x rs vs. g.Attributes everything (leaf q us) vs rs) (r.after_hash row us)
  after_hash_sound row q end e = refused
  after_hash_sound row q (group d ts us) e =
      choice (eqb d BRACKET)
      (λ f. onward_met (role.attribute_mark ∷ copied role.attribute_group ts)
      (pure_met {P = λ rs vs. g.Attributes everything us vs rs} (row + 1 + r.group_size ts) (λ xs. ts ∷ xs)
      (attributes_sound (row + 1 + r.group_size ts) us)) (λ x rs vs h. g.Attributes.attribute e f h))
      (λ f. refused)
  after_hash_sound row q (leaf p us) e =
      choice (is_punct HASH p) (λ f. onward_met (role.idle_mark ∷ []) (after_hash_sound (row + 1) p us f)
      (λ x rs vs h. g.Attributes.idle refl e f h)) (λ f. refused)

scope_after_sound : (row : ℕ) (q : Row) (us : Trees) → is_word PUB q ≡ true
    → Sound (λ x rs vs. g.Visibility everything (leaf q us) vs (role.visibility ∷ rs)) (r.scope_after row us)
scope_after_sound row q end e = met [] end (g.Visibility.plain e refl)
scope_after_sound row q (leaf p us) e = met [] (leaf p us) (g.Visibility.plain e refl)
scope_after_sound row q (group d ts us) e =
    choice (g.starts_scope (group d ts us)) (λ f. met (copied role.scope ts) us (g.Visibility.with_scope e f refl))
    (λ f. met [] (group d ts us) (g.Visibility.plain e f))

any_scope_sound : (row d : ℕ) (ts us : Trees) → lone (is_word PUB) ts ≡ true
    → Sound (λ x rs vs. g.Visibility everything (group d ts us) vs (copied role.visibility ts ++ rs))
    (r.any_scope row us)
any_scope_sound row d ts end e = met [] end (rw append-nil (g.Visibility.wrapped refl e refl))
any_scope_sound row d ts (leaf q us) e = met [] (leaf q us) (rw append-nil (g.Visibility.wrapped refl e refl))
any_scope_sound row d ts (group b vs us) e = met (copied role.scope vs) us (g.Visibility.wrapped_scoped refl refl e)

pub visibility_sound : (row : ℕ) (ts : Trees) → Sound (λ x rs us. g.Visibility everything ts us rs)
    (r.visibility row ts)
visibility_sound row end = met [] end (g.Visibility.none refl)
visibility_sound row (leaf q us) =
    choice (is_word PUB q) (λ e. onward_still (role.visibility ∷ []) (scope_after_sound (row + 1) q us e))
    (λ e. met [] (leaf q us) (g.Visibility.none e))
visibility_sound row (group d ts us) =
    choice (lone (is_word PUB) ts) (λ e. onward_still (copied role.visibility ts)
    (any_scope_sound (row + r.group_size ts) d ts us e)) (λ e. met [] (group d ts us) (g.Visibility.none e))

-- ## Words

data WordRead (n : ℕ) : Trees → Word → List ℕ → Trees → Type 0 where
  missed : {ts : Trees} → WordRead n ts missing [] ts
  ident : {q : Row} {us : Trees} {p : ℕ} → is_ident q ≡ true → WordRead n (leaf q us) (found q.text p) (n ∷ []) us
  wrapped : {d p : ℕ} {ts us : Trees} → lone is_ident ts ≡ true →
      WordRead n (group d ts us) (found (r.first_text ts) p) (copied n ts) us

word_read : (n row : ℕ) (ts : Trees) → Sound (WordRead n ts) (r.word n row ts)
word_read n row end = met [] end missed
word_read n row (leaf q us) = choice (is_ident q) (λ e. met (n ∷ []) us (ident e)) (λ e. met [] (leaf q us) missed)
word_read n row (group d ts us) =
    choice (lone is_ident ts) (λ e. met (copied n ts) us (wrapped e)) (λ e. met [] (group d ts us) missed)

word-ident : {n p : ℕ} {t : List ℕ} {ts us : Trees} {rs : List ℕ} → WordRead n ts (found t p) rs us →
    g.Word everything is_ident n ts us rs
word-ident (ident e) = g.Word.ident e
word-ident (wrapped e) = g.Word.wrapped refl e

lone-word : (w : List ℕ) (ts : Trees) → lone is_ident ts ≡ true → same (r.first_text ts) w ≡ true
    → lone (is_word w) ts ≡ true
lone-word w end e f = absurd (false≢true e)
lone-word w (group d ts us) e f = absurd (false≢true e)
lone-word w (leaf q end) e f = and_both _ _ e f
lone-word w (leaf q (leaf p us)) e f = absurd (false≢true e)
lone-word w (leaf q (group d ts us)) e f = absurd (false≢true e)

word-word : {n p : ℕ} {t : List ℕ} {ts us : Trees} {rs : List ℕ} (w : List ℕ) → WordRead n ts (found t p) rs us →
    same t w ≡ true
    → g.Word everything (is_word w) n ts us rs
word-word w (ident e) f = g.Word.ident (and_both _ _ e f)
word-word w (wrapped {ts = ts} e) f = g.Word.wrapped refl (lone-word w ts e f)

-- a word that must stand here, and what is read after it
pub name_then : {B : Type 0} {M : B → List ℕ → Trees → Type 0} {f : List ℕ → Reader B} (n row : ℕ) (ts : Trees)
    → ((t rs : List ℕ) (us : Trees) → g.Word everything is_ident n ts us rs → (row : ℕ) →
    Sound (λ b qs vs. M b (rs ++ qs) vs) (f t row us))
    → Sound M ((r.word n >>= λ w. r.named! w >>= f) row ts)
name_then {M = M} {f = f} n row ts k = after_met row (word_read n row ts) go
  where
    go : (w : Word) (rs : List ℕ) (us : Trees) → WordRead n ts w rs us → (row : ℕ) →
        Sound (λ t qs vs. M t (rs ++ qs) vs) ((r.named! w >>= f) row us)
    go missing rs us h row = refused
    go (found t p) rs us h row = onward_still [] (k t rs us (word-ident h) (row + 0))

abbrev pub kind_word : Kind → List ℕ
kind_word struct = STRUCT
kind_word enum = ENUM

data KindRead (t : List ℕ) (ts : Trees) : Kind → List ℕ → Trees → Type 0 where
  kind : {k : Kind} → same t (kind_word k) ≡ true → KindRead t ts k [] ts

named_kind_read : (t : List ℕ) (p row : ℕ) (ts : Trees) → Sound (KindRead t ts) (r.named_kind (found t p) row ts)
named_kind_read t p row ts = go (same t STRUCT) (same t ENUM) refl refl
  where
    go : (a b : Bool) → same t STRUCT ≡ a → same t ENUM ≡ b →
        Sound (KindRead t ts) (cond a (pure struct) (cond b (pure enum) (λ row ts. refuse 25 p)) row ts)
    go true b e f = met [] ts (kind e)
    go false true e f = met [] ts (kind f)
    go false false e f = refused

pub data_type_sound : (row : ℕ) (ts : Trees) → Sound (λ (h : r.Head) rs us. g.Head everything
    (is_word (kind_word h.kind)) ts us rs) (r.data_type row ts)
data_type_sound row ts = after_met row (word_read role.item-word row ts) go
  where
    named : (w t : List ℕ) (p : ℕ) (rs : List ℕ) (us : Trees) → WordRead role.item-word ts (found t p) rs us →
        (k : Kind) (qs : List ℕ) (vs : Trees)
        → KindRead t us k qs vs → (row : ℕ)
        → Sound (λ (h : r.Head) ps ws. g.Head everything (is_word (kind_word h.kind)) ts ws (rs ++ (qs ++ ps)))
        ((r.word role.item-name >>= λ v. r.named! v >>= λ n. pure (record { kind = k; name = n })) row vs)
    named w t p rs us h k qs vs (kind e) row =
        name_then role.item-name row vs (λ n ps ws i row. met [] ws
        (rw append-nil (g.Head.head (word-word (kind_word k) h e) i)))

    go : (w : Word) (rs : List ℕ) (us : Trees) → WordRead role.item-word ts w rs us → (row : ℕ)
        → Sound (λ (h : r.Head) qs vs. g.Head everything (is_word (kind_word h.kind)) ts vs (rs ++ qs))
        ((r.named_kind w >>= λ k. r.word role.item-name >>= λ v. r.named! v >>= λ n. pure
        (record { kind = k; name = n })) row us)
    go missing rs us h row = refused
    go (found t p) rs us h row = after_met row (named_kind_read t p row us) (named t t p rs us h)
