-- What the role grammar admits, the reader of that production takes, with the same roles: runs, attributes, visibility
-- and words.
use mathlib.Core.Path.{◌≡◌, refl, ap, ◌∙◌, sym, subst}
use mathlib.Core.Bool.{Bool, true, false, cond, not, ◌&&◌, ◌||◌, false≢true}
use mathlib.Core.List.{List, [], ◌∷◌, ◌++◌, append-nil}
use Prim.Native.Nat.{ℕ, ◌+◌, ◌-◌}
use borrow.Author.Tests.{eqb-true}
use lib.Dec.{eqb}
use lib.ListN.{length}
use Rattle.token_list.specs.Layout.{IDENT, LITERAL, PUNCT}
use Rattle.token_list.specs.Byte.{BRACKET, COMMA, GREATER, HASH, LESS, MINUS}
use Rattle.token_list.specs.Text.{same}
use Rattle.token_list.specs.Row.{Row, first}
use Rattle.token_list.specs.Stream.{Trees, end, leaf, group}
use Rattle.token_list.proofs.Texts.{and_parts, chosen, passed_over, and_last, and_fails, same_path}
use Rattle.reading.specs.Role as role
use Rattle.reading.specs.Token.{is_ident, is_literal, is_punct, is_word, copied, lone, starts, is_group, PUB, STRUCT}
use Rattle.reading.specs.Token.{ENUM, Stops, stopping}
use Rattle.reading.specs.Grammar as g
use Rattle.reading.specs.Grammar.{everything}
use Rattle.reading.specs.Declaration.{default, public, restricted, Kind, struct, enum}
use Rattle.reading.specs.Took.{Took, took, refuse, Reader, onward, after, ◌>>=◌, pure}
use Rattle.reading.specs.Reading as r
use Rattle.reading.specs.Reading.{Word, missing, found, Ending, Verdict, belongs, ends, unopened}
use Rattle.reading.proofs.SoundTokens.{kind_word}

-- a reader's answer: it takes, with these roles and this rest, and P holds of the value
pub record Taken {A : Type 0} (P : A → Type 0) (t : Took A) (rs : List ℕ) (us : Trees) : Type 0 where
  pub value : A
  pub holds : P value
  pub equal : t ≡ took value rs us

pub record Takes {A : Type 0} (P : A → Type 0) (m : Reader A) (ts us : Trees) (rs : List ℕ) : Type 0 where
  pub from : (row : ℕ) → Taken P (m row ts) rs us

abbrev pub Any : {A : Type 0} → A → Type 0
Any a = Unit {0}

-- ## Sequences

pub same_as : {A : Type 0} {P : A → Type 0} {t u : Took A} {rs : List ℕ} {us : Trees} → t ≡ u → Taken P u rs us →
    Taken P t rs us
same_as e h = record { value = h.value; holds = h.holds; equal = e ∙ h.equal }

pub taken_as : {A : Type 0} {P : A → Type 0} {t : Took A} (a : A) (rs : List ℕ) (us : Trees) → P a → t ≡ took a rs us →
    Taken P t rs us
taken_as a rs us h e = record { value = a; holds = h; equal = e }

pub onward-taken : {A : Type 0} {P : A → Type 0} {t : Took A} {qs : List ℕ} {us : Trees} (rs : List ℕ) →
    Taken P t qs us → Taken P (onward rs t) (rs ++ qs) us
onward-taken rs h = record { value = h.value; holds = h.holds; equal = ap (onward rs) h.equal }

pub and_then : {A B : Type 0} {P : A → Type 0} {Q : B → Type 0} {m : Reader A} {f : A → Reader B} {ts us vs : Trees}
    {rs qs : List ℕ}
    → Takes P m ts us rs → ((a : A) → P a → Takes Q (f a) us vs qs) → Takes Q (m >>= f) ts vs (rs ++ qs)
and_then {Q = Q} {m = m} {f = f} {ts = ts} {us = us} {vs = vs} {rs = rs} {qs = qs} h k = record { from = go }
  where
    go : (row : ℕ) → Taken Q ((m >>= f) row ts) (rs ++ qs) vs
    go row =
        let a = h.from row in
        let b = (k a.value a.holds).from (row + length rs) in
        record {
          value = b.value;
          holds = b.holds;
          equal = ap (λ t. after row t f) a.equal ∙ ap (onward
              rs) b.equal;
        }

-- the same roles, written otherwise
pub with_roles : {A : Type 0} {P : A → Type 0} {m : Reader A} {rs qs : List ℕ} {ts us : Trees} → rs ≡ qs →
    Takes P m ts us rs → Takes P m ts us qs
with_roles {P = P} {m = m} {ts = ts} {us = us} e h = subst (λ (rs : List ℕ). Takes P m ts us rs) e h

pub pure_takes : {A : Type 0} {P : A → Type 0} (a : A) (us : Trees) → P a → Takes P (pure a) us us []
pure_takes a us p = record { from = λ row. taken_as a [] us p refl }

pub and_pure : {A B : Type 0} {P : A → Type 0} {Q : B → Type 0} {m : Reader A} {ts us : Trees} {rs : List ℕ} (f : A → B)
    → Takes P m ts us rs → ((a : A) → P a → Q (f a)) → Takes Q (m >>= λ a. pure (f a)) ts us rs
and_pure {us = us} {rs = rs} f h k = with_roles (append-nil rs) (and_then h (λ a p. pure_takes (f a) us (k a p)))

-- ## Tests that exclude one another

pub eqb-other : (x a b : ℕ) → eqb x a ≡ true → eqb a b ≡ false → eqb x b ≡ false
eqb-other x a b e f = ap (λ (y : ℕ). eqb y b) (eqb-true x a e) ∙ f

punct_parts : (b : ℕ) (q : Row) → is_punct b q ≡ true → (eqb q.kind PUNCT ≡ true) × (eqb (first q.text) b ≡ true)
punct_parts b q e = and_parts (eqb q.kind PUNCT) (eqb (first q.text) b) e

pub punct-other : (a b : ℕ) (q : Row) → is_punct a q ≡ true → eqb a b ≡ false → is_punct b q ≡ false
punct-other a b q e f =
    let p = punct_parts a q e in
    and_last (eqb q.kind PUNCT) (eqb (first q.text) b) p.0 ∙ eqb-other (first q.text) a b p.1 f

pub ident_no_punct : (b : ℕ) (q : Row) → is_ident q ≡ true → is_punct b q ≡ false
ident_no_punct b q e =
    and_fails (eqb q.kind PUNCT) (eqb (first q.text) b) (eqb-other q.kind IDENT PUNCT e refl)

pub punct_no_literal : (b : ℕ) (q : Row) → is_punct b q ≡ true → is_literal q ≡ false
punct_no_literal b q e = eqb-other q.kind PUNCT LITERAL (punct_parts b q e).0 refl

-- ## Runs

-- the judgement of a token by its tests: punctuation, `<`, `>`, `,`, depth 0, and the stops `,` and `>`
abbrev judging : ℕ → (minus k lt gt co z cm ang mi : Bool) → Verdict
judging depth minus k lt gt co z cm ang mi =
    cond k
    (cond (minus && gt) (belongs depth false)
    (cond lt (belongs (depth + 1) false)
    (cond gt (cond z (cond ang (ends r.at_angle) unopened) (belongs (depth - 1) false))
    (cond (co && (z && cm)) (ends r.at_comma) (belongs depth mi)))))
    (belongs depth false)

module _ (st : Stops) (depth : ℕ) (q : Row) where
  judged_by : {k lt gt co z cm ang : Bool} (minus : Bool) → eqb q.kind PUNCT ≡ k → eqb (first q.text) LESS ≡ lt →
      eqb (first q.text) GREATER ≡ gt
      → eqb (first q.text) COMMA ≡ co
      → eqb depth 0 ≡ z → st.comma ≡ cm → st.angle ≡ ang →
      r.judge st depth minus q ≡ judging depth minus k lt gt co z cm ang (eqb (first q.text) MINUS)
  judged_by minus a b c d e f h =
      λ i. judging depth minus (a i) (b i) (c i) (d i) (e i) (f i) (h i) (eqb (first q.text) MINUS)

  judge_arrow : is_punct GREATER q ≡ true → r.judge st depth true q ≡ belongs depth false
  judge_arrow e = let p = punct_parts GREATER q e in judged_by true p.0 refl p.1 refl refl refl refl

  judge-deeper : (minus : Bool) → is_punct LESS q ≡ true → r.judge st depth minus q ≡ belongs (depth + 1) false
  judge-deeper true e = let p = punct_parts LESS q e in judged_by true p.0 p.1
      (eqb-other (first q.text) LESS GREATER p.1 refl) refl refl refl refl
  judge-deeper false e = let p = punct_parts LESS q e in judged_by false p.0 p.1 refl refl refl refl refl

  judge_back : is_punct GREATER q ≡ true → eqb depth 0 ≡ false → r.judge st depth false q ≡ belongs (depth - 1) false
  judge_back e z = let p = punct_parts GREATER q e in judged_by false p.0
      (eqb-other (first q.text) GREATER LESS p.1 refl)
      p.1 refl z refl refl

  judge-angle : is_punct GREATER q ≡ true → eqb depth 0 ≡ true → st.angle ≡ true →
      r.judge st depth false q ≡ ends r.at_angle
  judge-angle e z h = let p = punct_parts GREATER q e in judged_by false p.0
      (eqb-other (first q.text) GREATER LESS p.1 refl) p.1 refl z refl h

  judge-comma : (minus : Bool) → is_punct COMMA q ≡ true → eqb depth 0 ≡ true → st.comma ≡ true →
      r.judge st depth minus q ≡ ends r.at_comma
  judge-comma true e z h =
      let p = punct_parts COMMA q e in judged_by true p.0 (eqb-other (first q.text) COMMA LESS p.1 refl)
      (eqb-other (first q.text) COMMA GREATER p.1 refl) p.1 z h refl
  judge-comma false e z h =
      let p = punct_parts COMMA q e in judged_by false p.0 (eqb-other (first q.text) COMMA LESS p.1 refl)
      (eqb-other (first q.text) COMMA GREATER p.1 refl) p.1 z h refl

  judge_token : (minus : Bool) → g.ordinary st depth q ≡ true →
      r.judge st depth minus q ≡ belongs depth (is_punct MINUS q)
  judge_token minus = go minus (eqb q.kind PUNCT) (eqb (first q.text) LESS) (eqb (first q.text) GREATER)
      (eqb (first q.text) COMMA) (eqb depth 0) st.comma
    where
      go : (minus k lt gt co z cm : Bool) → not (k && lt || k && gt || k && co && (z && cm)) ≡ true
          → judging depth minus k lt gt co z cm st.angle (eqb (first q.text) MINUS) ≡
          belongs depth (k && eqb (first q.text) MINUS)
      go minus false lt gt co z cm e = refl
      go minus true true gt co z cm e = absurd (false≢true e)
      go minus true false true co z cm e = absurd (false≢true e)
      go minus true false false true true true e = absurd (false≢true e)
      go true true false false true true false e = refl
      go false true false false true true false e = refl
      go true true false false true false cm e = refl
      go false true false false true false cm e = refl
      go true true false false false z cm e = refl
      go false true false false false z cm e = refl

module _ (st : Stops) (n : ℕ) where
  run_step : (depth : ℕ) (minus : Bool) (q : Row) (us : Trees) (row : ℕ) {e : ℕ} {m : Bool} {vs : Trees} {rs : List ℕ} →
      r.judge st depth minus q ≡ belongs e m
      → Taken Any (r.run_from st n e m (row + 1) us) rs vs →
      Taken Any (r.run_from st n depth minus row (leaf q us)) (n ∷ rs) vs
  run_step depth minus q us row j h =
      same_as (ap (λ (v : Verdict). r.judged depth v
      (λ e m. onward (n ∷ []) (r.run_from st n e m (row + 1) us)) (leaf q us)
      row) j) (onward-taken (n ∷ []) h)

  run_ends : (depth : ℕ) (minus : Bool) (q : Row) (us : Trees) (row : ℕ) {e : Ending} →
      r.judge st depth minus q ≡ ends e
      → Taken Any (r.run_from st n depth minus row (leaf q us)) [] (leaf q us)
  run_ends depth minus q us row {e = e} j = taken_as (r.ended e depth) [] (leaf q us) tt
      (ap (λ (v : Verdict). r.judged depth v (λ e m. onward (n ∷ []) (r.run_from st n e m (row + 1) us))
      (leaf q us) row) j)

  pub run_from_complete : {depth : ℕ} {minus : Bool} {ts us : Trees} {rs : List ℕ} →
      g.Run everything st n depth minus ts us rs → (row : ℕ)
      → Taken Any (r.run_from st n depth minus row ts) rs us
  run_from_complete (g.Run.arrow {depth = depth} {q = q} {us = us} e h) row =
      run_step depth true q us row (judge_arrow st depth q e) (run_from_complete h (row + 1))
  run_from_complete (g.Run.deeper {depth = depth} {minus = minus} {q = q} {us = us} e h) row =
      run_step depth minus q us row (judge-deeper st depth q minus e) (run_from_complete h (row + 1))
  run_from_complete (g.Run.back {depth = depth} {q = q} {us = us} e z h) row =
      run_step depth false q us row (judge_back st depth q e z) (run_from_complete h (row + 1))
  run_from_complete (g.Run.angle {depth = depth} {q = q} {us = us} e z h) row =
      run_ends depth false q us row (judge-angle st depth q e z h)
  run_from_complete (g.Run.comma {depth = depth} {minus = minus} {q = q} {us = us} e z h) row =
      run_ends depth minus q us row (judge-comma st depth q minus e z h)
  run_from_complete (g.Run.stop {depth = depth} {d = d} {ts = ts} {us = us} e) row =
      taken_as (r.ended r.at_group depth) [] (group d ts us) tt (chosen (stopping st depth d) _ _ e)
  run_from_complete (g.Run.token {depth = depth} {minus = minus} {q = q} {us = us} e h) row =
      run_step depth minus q us row (judge_token st depth q minus e) (run_from_complete h (row + 1))
  run_from_complete (g.Run.inside {depth = depth} {d = d} {ts = ts} {us = us} e h) row =
      same_as (passed_over (stopping st depth d) _ _ e)
      (onward-taken (copied n ts) (run_from_complete h (row + r.group_size ts)))
  run_from_complete (g.Run.ended {depth = depth} e) row =
      taken_as (r.ended r.at_end depth) [] end tt refl

  pub run_complete : {ts us : Trees} {rs : List ℕ} → g.Run everything st n 0 false ts us rs →
      Takes Any (r.run st n) ts us rs
  run_complete {ts} {us} {rs} h = record {
    from = λ row. taken_as (r.first_rows ts (length rs)) rs us tt (ap (r.kept ts)
        (run_from_complete h row).equal);
  }

-- ## Attributes and visibility

attributes_none : (ts : Trees) → starts (is_punct HASH) ts ≡ false → (row : ℕ) → r.attributes row ts ≡ took [] [] ts
attributes_none end e row = refl
attributes_none (group d ts us) e row = refl
attributes_none (leaf q us) e row = passed_over (is_punct HASH q) _ _ e

attributes_taken : {ts us : Trees} {rs : List ℕ} → g.Attributes everything ts us rs → (row : ℕ) →
    Taken Any (r.attributes row ts) rs us
attributes_taken (g.Attributes.none {ts = ts} e) row = taken_as [] [] ts tt (attributes_none ts e row)
attributes_taken (g.Attributes.attribute {q = q} {d = d} {ts = ts} {us = us} {vs = vs} {rs = rs} e f h) row =
    let below = row + 1 + r.group_size ts in
    same_as (chosen (is_punct HASH q) _ _ e ∙ chosen (eqb d BRACKET) _ _ f)
    (onward-taken (role.attribute_mark ∷ copied role.attribute_group ts)
    ((and_pure {Q = Any} {m = r.attributes} {ts = us} {us = vs} {rs = rs} (λ xs. ts ∷ xs)
    (record { from = λ n. attributes_taken h n }) (λ x y. tt)).from below))
attributes_taken (g.Attributes.idle {q = q} {p = p} {us = us} a e f h) row =
    same_as (chosen (is_punct HASH q) _ _ e ∙ chosen (is_punct HASH p) _ _ f)
    (onward-taken (role.idle_mark ∷ []) (same_as (sym (chosen (is_punct HASH p) _ _ f)) (attributes_taken h (row + 1))))

pub attributes_complete : {ts us : Trees} {rs : List ℕ} → g.Attributes everything ts us rs →
    Takes Any r.attributes ts us rs
attributes_complete h = record { from = attributes_taken h }

visibility-none : (ts : Trees) → g.starts_visibility ts ≡ false → (row : ℕ) → r.visibility row ts ≡ took default [] ts
visibility-none end e row = refl
visibility-none (group d ts us) e row = passed_over (lone (is_word PUB) ts) _ _ e
visibility-none (leaf q us) e row = passed_over (is_word PUB q) _ _ e

no_scope : (us : Trees) → g.starts_scope us ≡ false → (row : ℕ) → r.scope_after row us ≡ took public [] us
no_scope end e row = refl
no_scope (leaf q us) e row = refl
no_scope (group d ts us) e row = passed_over (g.starts_scope (group d ts us)) _ _ e

no_group : (us : Trees) → is_group us ≡ false → (row : ℕ) → r.any_scope row us ≡ took public [] us
no_group end e row = refl
no_group (leaf q us) e row = refl
no_group (group d ts us) e row = absurd (false≢true (sym e))

visibility-taken : {ts us : Trees} {rs : List ℕ} → g.Visibility everything ts us rs → (row : ℕ) →
    Taken Any (r.visibility row ts) rs us
visibility-taken (g.Visibility.none {ts = ts} e) row = taken_as default [] ts tt (visibility-none ts e row)
visibility-taken (g.Visibility.plain {q = q} {us = us} e f) row =
    same_as (chosen (is_word PUB q) _ _ e)
    (onward-taken (role.visibility ∷ []) (taken_as public [] us tt (no_scope us f (row + 1))))
visibility-taken (g.Visibility.with_scope {q = q} {d = d} {ts = ts} {us = us} e f u) row =
    same_as (chosen (is_word PUB q) _ _ e)
    (onward-taken (role.visibility ∷ [])
    (taken_as (restricted d ts) (copied role.scope ts) us tt (chosen (g.starts_scope (group d ts us)) _ _ f)))
visibility-taken (g.Visibility.wrapped {d = d} {ts = ts} {us = us} a e f) row =
    taken_as public (copied role.visibility ts) us tt
    (chosen (lone (is_word PUB) ts) _ _ e
    ∙ ap (onward (copied role.visibility ts)) (no_group us f (row + r.group_size ts))
    ∙ ap (λ (rs : List ℕ). took public rs us) (append-nil (copied role.visibility ts)))
visibility-taken (g.Visibility.wrapped_scoped {e = d} {ts = ts} {us = us} {vs = vs} a b e) row =
    taken_as (restricted d us) (copied role.visibility ts ++ copied role.scope us) vs tt
    (chosen (lone (is_word PUB) ts) _ _ e)

pub visibility_complete : {ts us : Trees} {rs : List ℕ} → g.Visibility everything ts us rs →
    Takes Any r.visibility ts us rs
visibility_complete h = record { from = visibility-taken h }

-- ## Words

-- a word was found, and its text passes the test
abbrev Found : (List ℕ → Bool) → Word → Type 0
Found p missing = ⊥
Found p (found t row) = p t ≡ true

module _ (is : Row → Bool) (p : List ℕ → Bool) (parts : (q : Row) → is q ≡ true → (is_ident q ≡ true) ×
    (p q.text ≡ true)) where
  lone_parts : (ts : Trees) → lone is ts ≡ true → (lone is_ident ts ≡ true) × (p (r.first_text ts) ≡ true)
  lone_parts end e = absurd (false≢true e)
  lone_parts (group d ts us) e = absurd (false≢true e)
  lone_parts (leaf q end) e = parts q e
  lone_parts (leaf q (leaf s us)) e = absurd (false≢true e)
  lone_parts (leaf q (group d ts us)) e = absurd (false≢true e)

  word-taken : {n : ℕ} {ts us : Trees} {rs : List ℕ} → g.Word everything is n ts us rs → (row : ℕ) →
      Taken (Found p) (r.word n row ts) rs us
  word-taken {n} (g.Word.ident {q = q} {us = us} e) row =
      taken_as (found q.text row) (n ∷ []) us (parts q e).1 (chosen (is_ident q) _ _ (parts q e).0)
  word-taken {n} (g.Word.wrapped {ts = ts} {us = us} a e) row =
      taken_as (found (r.first_text ts) (row + 1)) (copied n ts) us (lone_parts ts e).1
      (chosen (lone is_ident ts) _ _ (lone_parts ts e).0)

  word_complete : {n : ℕ} {ts us : Trees} {rs : List ℕ} → g.Word everything is n ts us rs →
      Takes (Found p) (r.word n) ts us rs
  word_complete h = record { from = word-taken h }

-- a word as name, and what is read after it
pub name_then : {B : Type 0} {Q : B → Type 0} {f : List ℕ → Reader B} {n : ℕ} {ts us vs : Trees} {rs qs : List ℕ} →
    g.Word everything is_ident n ts us rs
    → ((t : List ℕ) → Takes Q (f t) us vs qs) → Takes Q (r.word n >>= λ w. r.named! w >>= f) ts vs (rs ++ qs)
name_then {Q = Q} {f = f} {us = us} {vs = vs} {qs = qs} h k =
    and_then (word_complete is_ident (λ t. true) (λ q e. (e, refl)) h) go
  where
    go : (w : Word) → Found (λ t. true) w → Takes Q (r.named! w >>= f) us vs qs
    go missing e = absurd e
    go (found t p) e = and_then (pure_takes {P = λ a. a ≡ t} t us refl)
        (λ a e. subst (λ (a : List ℕ). Takes Q (f a) us vs qs) (sym e) (k t))

named_kind-taken : (k : Kind) (t : List ℕ) (p row : ℕ) (us : Trees) → same t (kind_word k) ≡ true →
    r.named_kind (found t p) row us ≡ took k [] us
named_kind-taken struct t p row us e =
    ap (λ (b : Bool). cond b (pure struct) (cond (same t ENUM) (pure enum) (λ row ts. refuse 25 p)) row us) e
named_kind-taken enum t p row us e =
    ap (λ (b : Bool). cond b (pure struct) (cond (same t ENUM) (pure enum) (λ row ts. refuse 25 p)) row us)
    (ap (λ (w : List ℕ). same w STRUCT) (same_path t ENUM e))
    ∙ ap (λ (b : Bool). cond b (pure enum) (λ row ts. refuse 25 p) row us) e

abbrev after_kind : Kind → Reader r.Head
after_kind k = r.word role.item-name >>= λ v. r.named! v >>= λ n. pure (record { kind = k; name = n })

pub data_type_complete : {ts us : Trees} {rs : List ℕ} (k : Kind) → g.Head everything (is_word (kind_word k)) ts us rs
    → Takes (λ (h : r.Head). h.kind ≡ k) r.data_type ts us rs
data_type_complete k (g.Head.head {us = us} {vs = vs} {bs = bs} a b) =
    and_then (word_complete (is_word (kind_word k)) (λ t. same t (kind_word k))
    (λ q e. and_parts (is_ident q) (same q.text (kind_word k)) e) a) kinds
  where
    named : (l : Kind) → l ≡ k → Takes (λ (h : r.Head). h.kind ≡ k) (after_kind l) us vs bs
    named l e = with_roles (append-nil bs) (name_then b (λ t. pure_takes (record { kind = l; name = t }) vs e))

    kinds : (w : Word) → Found (λ t. same t (kind_word k)) w →
        Takes (λ (h : r.Head). h.kind ≡ k) (r.named_kind w >>= after_kind) us vs bs
    kinds missing e = absurd e
    kinds (found t p) e =
        and_then {P = λ l. l ≡ k} {m = r.named_kind (found t p)} {rs = []}
        (record { from = λ row. taken_as k [] us refl (named_kind-taken k t p row us e) }) named
