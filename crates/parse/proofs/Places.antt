-- Laws on where cursors and tokens stand.
use mathlib.Core.Path.{◌≡◌, refl, ap, ◌∙◌, sym, subst, subst⁻¹}
use mathlib.Core.Bool.{Bool, true, false, cond, ◌||◌, false≢true}
use mathlib.Core.List.{List, [], ◌∷◌}
use Prim.Native.Nat.{ℕ, ◌+◌}
use native.Mathlib.Omega.{arith}
use lib.ListN.{length}
use Rattle.token_list.specs.Byte.{QUOTE}
use Rattle.token_list.specs.Stream.{Trees, end, leaf, group}
use Rattle.token_list.specs.Contract.{InList, TokenAt, LeafAt, GroupAt, row_of}
use Rattle.token_list.specs.declared.check.Cursor.{Cursor}
use Rattle.token_list.specs.declared.stream.Token.{Token}
use Rattle.token_list.proofs.Texts.{chosen}
use Rattle.reading.specs.Token.{starts, is_punct, is_word, CONST}
use Rattle.reading.specs.Declaration.{Value}
use Rattle.reading.specs.Took.{Took, took, Cause, stopped, Reader, Point, past_taken, beyond}
use Rattle.reading.specs.Reading.{punct_if, is_literal, negatable, negative_value}
use Rattle.reading.specs.Place.{ident_row, word_row, token_end, past_token_lem, before_name, parameter_name_at}
use Rattle.reading.specs.Place.{literal_row}
use Rattle.parse.specs.Contract.{Said, on, Meets, stands, refuses, stream, point, CursorAt, TokenIn}
use Rattle.parse.specs.Contract.{WordAt, NameAt, past_of, ValueIn, value_shown, value_said}
use Rattle.parse.proofs.Meeting.{past_in_of}
use Rattle.parse.specs.declared.utils.Word.{Word}
use Rattle.std.specs.Prelude.{Result, Ok, Err}
use Rattle.parse.specs.declared.variants.ValueAt.{ValueAt}
use Rattle.token_list.specs.declared.check.Refusal.{Refusal}

-- ## Cursors

-- a reader stops past what it takes
pub meets_beyond : {A : Type 0} (m : Reader A) {s : List ℕ} {c d : Cursor} {b0 b1 : List ℕ} {sh : A → Type 0}
    → Meets s c b0 b1 sh (on d) (m c.row (stream s c)) → CursorAt s (beyond m (point s c)) d
meets_beyond {A} m {s} {c} {d} {b0} {b1} {sh} w = go refl w
  where
    go : {t : Took A} → m c.row (stream s c) ≡ t → Meets s c b0 b1 sh (on d) t → CursorAt s (beyond m (point s c)) d
    go e (stands {rs = rs} {us = us} mv h) =
        let there : point s d ≡ record { row = c.row + length rs; stream = us } =
        λ i. record { row = mv.row i; stream = mv.here i } in
        record { in_list = mv.in_list; here = there ∙ sym (ap (past_taken (point s c)) e) }

-- ## Tokens

module _ (s : List ℕ) (c : Cursor) (t : Token) (i : InList s c) where
  pub token_in : TokenAt s c.at t → TokenIn s c.row t
  token_in k = subst (λ (n : ℕ). TokenAt s n t) i.starts k

  pub ident_leaf : LeafAt s c.at t → TokenIn s (word_row (point s c)) t
  ident_leaf l = subst⁻¹ (λ (n : ℕ). TokenIn s n t) (ap (ident_row c.row) l.here) (token_in l.token)

-- the ident in a group that opens at c
pub ident_group : (s : List ℕ) (c : Cursor) (g t : Token) → GroupAt s c.at g → TokenIn s (c.row + 1) t →
    TokenIn s (word_row (point s c)) t
ident_group s c g t k h = subst⁻¹ (λ (n : ℕ). TokenIn s n t) (ap (ident_row c.row) k.here) h

-- a word that is a name, from an equal point
pub placed_name : (s : List ℕ) (c : Cursor) {w : Word} {x : Point} {name : List ℕ} → point s c ≡ x →
    WordAt s (point s c) w name → NameAt s x w.token c.row name
placed_name s c {w} e h =
    record {
      text = h.text;
      token = subst (λ (x : Point). TokenIn s (word_row x) w.token) e h.token;
      place = ap (λ (x : Point). x.row) e;
    }

-- past the token that was taken at c
pub token_past : (s : List ℕ) (c d : Cursor) (t : Token) → InList s c → LeafAt s c.at t → d ≡ past_of c t →
    CursorAt s (past_token_lem (point s c)) d
token_past s c d t i l e =
    record {
      in_list = past_in_of s c d t e i l.token;
      here = ap (point s) e ∙ sym (ap (token_end c.row) l.here);
    }

-- past a punctuation that stands at x
pub punct_past : (b r : ℕ) (x : Point) → starts (is_punct b) x.stream ≡ true
    → beyond (punct_if b r) x ≡ past_token_lem x
punct_past b r x e = go x.stream e
  where
    go : (ts : Trees) → starts (is_punct b) ts ≡ true →
        past_taken x (punct_if b r x.row ts) ≡ token_end x.row ts
    go end e = absurd (false≢true e)
    go (group d ts us) e = absurd (false≢true e)
    go (leaf q us) e =
        let n : x.row + length (r ∷ []) ≡ x.row + 1 = omega arith in
        ap (past_taken x) (chosen _ _ _ e) ∙ (λ i. record { row = n i; stream = us })

-- the same point, said otherwise
pub cursor_at : {s : List ℕ} {c : Cursor} {x y : Point} → x ≡ y → CursorAt s x c → CursorAt s y c
cursor_at {s} {c} e k = subst (λ (x : Point). CursorAt s x c) e k

-- ## A parameter's name

module _ (s : List ℕ) (c d : Cursor) (t : Token) (i : InList s c) (l : LeafAt s c.at t) where
  name_at : {b : Bool} → before_name (row_of s t) ≡ b →
      parameter_name_at (point s c) ≡ cond b (past_token_lem (point s c)) (point s c)
  name_at {b} q =
      ap (λ (ts : Trees). cond (starts before_name ts) (past_token_lem (point s c)) (point s c)) l.here ∙
      ap (λ (x : Bool). cond x (past_token_lem (point s c)) (point s c)) q

  pub after-quote : d ≡ past_of c t → is_punct QUOTE (row_of s t) ≡ true → point s d ≡ parameter_name_at (point s c)
  after-quote e q =
      (token_past s c d t i l e).here ∙ sym (name_at (ap (λ (b : Bool). b || is_word CONST (row_of s t)) q))

  pub after_const : d ≡ past_of c t → is_punct QUOTE (row_of s t) ≡ false → is_word CONST (row_of s t) ≡ true →
      point s d ≡ parameter_name_at (point s c)
  after_const e q r = (token_past s c d t i l e).here ∙ sym (name_at (λ j. q j || r j))

  pub name_itself : is_punct QUOTE (row_of s t) ≡ false → is_word CONST (row_of s t) ≡ false →
      point s c ≡ parameter_name_at (point s c)
  name_itself q r = sym (name_at (λ j. q j || r j))

-- ## A value's literal

-- a negative's literal stands past the `-`
data PastMinus : Took Value → Type 0 where
  negative : {v : Value} {rs : List ℕ} {us : Trees} → ((row : ℕ) → literal_row row v ≡ row + 1) →
      PastMinus (took v rs us)
  refused : {w : Cause} {n p : ℕ} → PastMinus (stopped w n p)

choice : (b : Bool) {t u : Took Value} → PastMinus t → PastMinus u → PastMinus (cond b t u)
choice true h k = h
choice false h k = k

past_minus : (row : ℕ) (ts : Trees) → PastMinus (negative_value row ts)
past_minus row end = refused
past_minus row (group d ts us) = refused
past_minus row (leaf r us) = choice (is_literal r) (choice (negatable r.text) (negative (λ n. refl)) refused) refused

literal_past : {v : Value} {rs : List ℕ} {us : Trees} → PastMinus (took v rs us) → (row : ℕ) →
    literal_row row v ≡ row + 1
literal_past (negative h) = h

-- the same value, with its literal's row said otherwise
pub value_as : (s : List ℕ) (r : Result (ValueAt × Cursor) Refusal) (f g : Value → ℕ) (v : Value) → g v ≡ f v
    → value_shown s f r v →
    value_shown s g r v
value_as s (Ok (w, d)) f g v e h = (h.0, subst⁻¹ (λ (n : ℕ). ValueIn s n w) e h.1)
value_as s (Err r) f g v e h = h

pub value_past_minus : {s : List ℕ} {d : Cursor} {b0 b1 : List ℕ} (r : Result (ValueAt × Cursor) Refusal) (row : ℕ) →
    d.row ≡ row + 1
    → Meets s d b0 b1 (value_shown s (λ v. d.row) r) (value_said r) (negative_value d.row (stream s d))
    → Meets s d b0 b1 (value_shown s (literal_row row) r) (value_said r) (negative_value d.row (stream s d))
value_past_minus {s} {d} {b0} {b1} r row q m = go refl m
  where
    go : {t : Took Value} {x : Said} → negative_value d.row (stream s d) ≡ t →
        Meets s d b0 b1 (value_shown s (λ v. d.row) r) x t
        → Meets s d b0 b1 (value_shown s (literal_row row) r) x t
    go e (stands {a = v} mv h) =
        let past = literal_past (subst PastMinus e (past_minus d.row (stream s d))) row in
        stands mv (value_as s r (λ v. d.row) (literal_row row) v (past ∙ sym q) h)
    go e (refuses qs k) = refuses qs k
