-- Laws on the form of a row, by its kind.
use Rattle.std.specs.Prelude.{Option, Some, None, IfSome}
use Rattle.std.proofs.lemmas.Option.{IfSome_then}
use mathlib.Core.Path.{◌≡◌, refl, ap, ◌∙◌, sym}
use mathlib.Core.Bool.{Bool, true, false, cond, ◌&&◌, ◌||◌, false≢true}
use mathlib.Core.List.{List, [], ◌∷◌}
use Prim.Native.Nat.{ℕ, ◌+◌, ◌-◌, ◌≤◌, ◌<◌}
use native.Mathlib.Omega.{arith}
use borrow.Author.Tests.{eq-eqb, ne_eqb, eqb-true, eqb-false, le-leb, leb-true, ltb-true, lt-ltb}
use lib.Dec.{eqb, leb, ltb}
use lib.ListN.{length, get_or, drop}
use lib.Seq.{slice, length-slice}
use Rattle.token_list.specs.Layout.{CLOSE, IDENT, LITERAL, OPEN, PUNCT}
use Rattle.token_list.specs.Byte.{LF, SPACE}
use Rattle.token_list.specs.Text.{LF, all, member, name, name_start, name_part, digit, literal, literal_start}
use Rattle.token_list.specs.Text.{printable, single, punctuation, opening, closing}
use Rattle.token_list.specs.Row.{line, lines, front, Form, plain, opens, closed, wrong, form_of, text_form}
use Rattle.token_list.specs.Row.{first}
use Rattle.token_list.specs.Check.{is_row}
use Rattle.token_list.specs.Contract.{shape, line_form, token, one_byte_lem, formed, in_text, TokenEnd}
use Rattle.token_list.specs.Contract.{TextShaped, ColumnShaped}
use Rattle.token_list.specs.declared.row.Line.{Line}
use Rattle.token_list.specs.declared.row.Shape.{Shape}
use Rattle.token_list.specs.declared.row.Shape.TheVariants.{Plain, Opens, Closed}
use Rattle.token_list.proofs.Texts.{chosen, passed_over, only, single_only, first_only, slice_next, slice-none}
use Rattle.token_list.proofs.Texts.{and_last, and_both, and_parts, or_holds}
use Rattle.token_list.proofs.Lines.{lines-byte, lines_end}

pub ident-form : (k : ℕ) (t : List ℕ) → k ≡ IDENT → form_of k t ≡ cond (name t) plain wrong
unfolding form_of
ident-form k t e = chosen _ _ _ (eq-eqb _ _ e)

pub literal-form : (k : ℕ) (t : List ℕ) → k ≡ LITERAL → form_of k t ≡ cond (literal t) plain wrong
unfolding form_of
literal-form k t e = rw e

-- a test on a text of one byte, where the choice shows the byte itself
single_choice : (p : ℕ → Bool) (f : ℕ → Form) (t : List ℕ) → p 0 ≡ false
    → cond (single p t) (f (first t)) wrong ≡ cond (p (only t)) (f (only t)) wrong
single_choice p f t e = rw (single_only p t e) (go (p (only t)) refl)
  where
    go : (b : Bool) → p (only t) ≡ b → cond b (f (first t)) wrong ≡ cond b (f (only t)) wrong
    go true q = ap f (first_only p t e q)
    go false q = refl

-- the form of a row of kind p, o or c whose text is the one byte b
abbrev single_form : ℕ → ℕ → Form
single_form k b =
    cond (eqb k PUNCT) (cond (punctuation b) plain wrong)
    (cond (eqb k OPEN) (cond (opening b) (opens b) wrong)
    (cond (eqb k CLOSE) (cond (closing b) (closed b) wrong) wrong))

pub single-form : (k : ℕ) (t : List ℕ) → (k ≡ IDENT → ⊥) → (k ≡ LITERAL → ⊥) → form_of k t ≡ single_form k (only t)
unfolding form_of
single-form k t a b =
    passed_over _ _ _ (ne_eqb _ _ a)
    ∙ passed_over _ _ _ (ne_eqb _ _ b)
    ∙ (λ i. cond (eqb k PUNCT) (cond (single_only punctuation t refl i) plain wrong)
    (cond (eqb k OPEN) (single_choice opening opens t refl i)
    (cond (eqb k CLOSE) (single_choice closing closed t refl i) wrong)))

-- ## Texts of one byte

-- a test that each byte of a set passes
member_passes : (p : ℕ → Bool) (b : ℕ) (xs : List ℕ) → all p xs ≡ true → member b xs ≡ true → p b ≡ true
member_passes p b [] a m = absurd (false≢true m)
member_passes p b (x ∷ xs) a m = go (eqb b x) refl (p x) refl a m (member_passes p b xs)
  where
    go : (t : Bool) → eqb b x ≡ t → (u : Bool) → p x ≡ u → (u && all p xs) ≡ true → (t || member b xs) ≡ true →
        (all p xs ≡ true → member b xs ≡ true → p b ≡ true) → p b ≡ true
    go t e false f a m k = absurd (false≢true a)
    go true e true f a m k = ap p (eqb-true b x e) ∙ f
    go false e true f a m k = k a m

-- a byte that starts a literal may stand in it
pub literal-shown : (b : ℕ) → literal_start b ≡ true → printable b ≡ true
literal-shown b e = go (digit b) refl e
  where
    go : (x : Bool) → digit b ≡ x → (x || member b (34 ∷ 39 ∷ 98 ∷ 99 ∷ 114 ∷ [])) ≡ true → printable b ≡ true
    go true d q = let h = and_parts (leb 48 b) (leb b 57) d in and_both _ _
        (le-leb 32 b (omega (arith, leb-true 48 b h.0))) (le-leb b 126 (omega (arith, leb-true b 57 h.1)))
    go false d q = member_passes printable b (34 ∷ 39 ∷ 98 ∷ 99 ∷ 114 ∷ []) refl q

pub literal_byte : (b : ℕ) → literal (b ∷ []) ≡ literal_start b
literal_byte b = go (literal_start b) refl
  where
    go : (x : Bool) → literal_start b ≡ x → (x && (printable b && true)) ≡ x
    go true e = ap (λ (y : Bool). y && true) (literal-shown b e)
    go false e = refl

-- ## The form of a text by its length

pub text-right : (k : ℕ) (t : List ℕ) → length t ≤ 255 → text_form k t ≡ form_of k t
text-right k t h = chosen _ _ _ (le-leb _ _ h)

-- ## Rows of which one look at each byte tells the form

pub name_fits : (k b : ℕ) (t : List ℕ) → k ≡ IDENT → name_start b ≡ true → all name_part (b ∷ t) ≡ true →
    form_of k (b ∷ t) ≡ plain
name_fits k b t e n f =
    ident-form k (b ∷ t) e ∙ chosen _ _ _ (or_holds _ _ (and_both _ _ n (sym (and_last _ _ (or_holds _ _ n)) ∙ f)))

pub literal_fits : (k b : ℕ) (t : List ℕ) → k ≡ LITERAL → literal_start b ≡ true → all printable (b ∷ t) ≡ true →
    form_of k (b ∷ t) ≡ plain
literal_fits k b t e n f = literal-form k (b ∷ t) e ∙ chosen _ _ _ (and_both _ _ n f)

-- a row's form is not wrong
pub no_wrong : {f : Form} → f ≡ wrong → is_row f ≡ true → ⊥
no_wrong e r = false≢true (sym (ap is_row e) ∙ r)

pub no_shape : (x : Shape) → shape x ≡ wrong → ⊥
no_shape Plain e = no_wrong e refl
no_shape (Opens d) e = no_wrong e refl
no_shape (Closed d) e = no_wrong e refl

pub no_line : (P : Line → Type 0) (r : Option Line) → line_form r ≡ wrong → IfSome r P
no_line P None e = tt
no_line P (Some x) e = absurd (no_shape x.shape e)

-- no kind is an LF
pub lf_kind : (k : ℕ) (t : List ℕ) → k ≡ LF → form_of k t ≡ wrong
unfolding form_of
lf_kind k t e = rw e

pub zero_kind : (k : ℕ) (t : List ℕ) → k ≡ 0 → form_of k t ≡ wrong
unfolding form_of
zero_kind k t e = rw e

-- nor is a text's first byte
chosen_wrong : (x y z u v : Bool) → cond x wrong (cond y wrong (cond z wrong (cond u wrong (cond v wrong wrong)))) ≡
    wrong
chosen_wrong true y z u v = refl
chosen_wrong false true z u v = refl
chosen_wrong false false true u v = refl
chosen_wrong false false false true v = refl
chosen_wrong false false false false true = refl
chosen_wrong false false false false false = refl

pub lf_text : (k b : ℕ) (t : List ℕ) → b ≡ LF → form_of k (b ∷ t) ≡ wrong
unfolding form_of
lf_text k b [] e = rw e (chosen_wrong (eqb k IDENT) (eqb k LITERAL) (eqb k PUNCT) (eqb k OPEN) (eqb k CLOSE))
lf_text k b (c ∷ t) e = rw e (chosen_wrong (eqb k IDENT) (eqb k LITERAL) (eqb k PUNCT) (eqb k OPEN) (eqb k CLOSE))

pub no_text : (k : ℕ) → form_of k [] ≡ wrong
unfolding form_of
no_text k = chosen_wrong (eqb k IDENT) (eqb k LITERAL) (eqb k PUNCT) (eqb k OPEN) (eqb k CLOSE)

-- a text that is not of one byte is none of kind p, o or c
pub single-wrong : (k : ℕ) (t : List ℕ) → (k ≡ IDENT → ⊥) → (k ≡ LITERAL → ⊥) → 0 ≡ only t → form_of k t ≡ wrong
single-wrong k t a b e =
    single-form k t a b ∙ ap (single_form k) (sym e) ∙ chosen_wrong false false (eqb k PUNCT) (eqb k OPEN) (eqb k CLOSE)

pub record OneByte (s : List ℕ) (i : ℕ) : Type 0 where
  pub within : i + 3 < length s
  pub space : get_or s (i + 1) 0 ≡ SPACE
  pub lf : get_or s (i + 3) 0 ≡ LF

pub one_byte_parts : (s : List ℕ) (i : ℕ) → one_byte_lem s i ≡ true → OneByte s i
one_byte_parts s i e =
    let p = and_parts (ltb (i + 3) (length s)) _ e in
    let q = and_parts (eqb (get_or s (i + 1) 0) SPACE) _ p.1 in
    record { within = ltb-true _ _ p.0; space = eqb-true _ _ q.0; lf = eqb-true _ _ q.1 }

-- an LF stands in no text
lf_no_text : (names : Bool) (b : ℕ) → in_text names b ≡ true → b ≡ LF → ⊥
lf_no_text true b f e = false≢true (sym (ap name_part e) ∙ f)
lf_no_text false b f e = false≢true (sym (ap printable e) ∙ f)

module _ (k : ℕ) (s : List ℕ) (at : ℕ) (r : Option Line) where
  -- the text from `at` to e
  pub quick_row : (e : ℕ) → at ≤ e → e < length s → lines (drop at s) ≡ line (slice at e s) (lines (drop (e + 1) s))
      → e - at ≤ 255 → IfSome r (λ x. x.next ≡ e + 1) → line_form r ≡ form_of k (slice at e s) → TextShaped k s at r
  quick_row e h w l few n f =
      let short : length (slice at e s) ≤ 255 = omega (arith, length-slice at e s (omega arith)) in
      record {
        right = f ∙ sym (ap (formed (text_form k)) l ∙ text-right k (slice at e s) short);
        past = IfSome_then r n (λ x q. (omega (arith, q), omega (arith, q)));
        rest = IfSome_then r n (λ x q. (
          slice at e s,
          l ∙ ap (λ (m : ℕ). line (slice at e s) (lines (drop m s))) (sym q),
        ));
      }

  pub no_row : line_form r ≡ wrong → formed (text_form k) (lines (drop at s)) ≡ wrong → TextShaped k s at r
  no_row e g = record { right = e ∙ sym g; past = no_line _ r e; rest = no_line _ r e }

  -- a text of one byte
  pub quick_byte : at + 1 < length s → get_or s (at + 1) 0 ≡ LF → IfSome r (λ x. x.next ≡ at + 2) →
      line_form r ≡ form_of k (get_or s at 0 ∷ []) → TextShaped k s at r
  quick_byte h q n f = mark (eqb (get_or s at 0) LF) refl
    where
      text : slice at (at + 1) s ≡ get_or s at 0 ∷ []
      text =
          slice_next s at (at + 1) (omega arith) (omega arith)
          ∙ ap (λ (x : List ℕ). get_or s at 0 ∷ x) (slice-none s (at + 1) (at + 1) (omega arith))

      mark : (b : Bool) → eqb (get_or s at 0) LF ≡ b → TextShaped k s at r
      mark true e =
          let b = eqb-true _ _ e in
          no_row (f ∙ lf_text k _ [] b)
          (ap (formed (text_form k)) (lines_end s at (omega arith) b) ∙ text-right k [] (omega arith) ∙ no_text k)
      mark false e =
          let l : lines (drop at s) ≡ line (get_or s at 0 ∷ []) (lines (drop (at + 1 + 1) s)) =
          lines-byte s at (omega arith) (eqb-false _ _ e) ∙ ap (front (get_or s at 0)) (lines_end s (at + 1) h q) in
          quick_row (at + 1) (omega arith) h (l ∙ ap (λ (x : List ℕ). line x (lines (drop (at + 1 + 1) s)))
          (sym text)) (omega arith) (IfSome_then r n (λ x q. omega (arith, q)))
          (f ∙ ap (form_of k) (sym text))

module _ (k : ℕ) (s : List ℕ) (at : ℕ) where
  -- a token that is found by its text's end
  pub quick_token : (names : Bool) → in_text names (get_or s at 0) ≡ true
      → ((t : List ℕ) → all (in_text names) (get_or s at 0 ∷ t) ≡ true → form_of k (get_or s at 0 ∷ t) ≡ plain)
      → (n : ℕ) → TokenEnd s names at n → TextShaped k s at (token (Some n))
  quick_token names fit form n x =
      let e = x.end in
      let te = x.text in
      let b = get_or s at 0 in
      let text : slice at e s ≡ b ∷ slice (at + 1) e s =
      slice_next s at e (omega (arith, te.start)) (omega (arith, x.within)) in
      let l : lines (drop at s) ≡ line (slice at e s) (lines (drop (e + 1) s)) =
      lines-byte s at (omega (arith, te.start, x.within)) (lf_no_text names b fit)
      ∙ ap (front b) (te.line x.within x.lf) ∙ ap (λ (y : List ℕ). line y (lines (drop (e + 1) s))) (sym text) in
      quick_row k s at (token (Some n)) e (omega (arith, te.start)) x.within l x.short x.next
      (sym (ap (form_of k) text ∙ form _ (and_both _ _ fit te.fits)))

-- ## Rows by what stands behind a column

module _ (k : ℕ) (s : List ℕ) (i : ℕ) (r : Option Line) where
  pub behind_space : i + 1 < length s → get_or s (i + 1) 0 ≡ SPACE → TextShaped k s (i + 2) r → ColumnShaped k s i r
  behind_space h e t =
      let yes = and_both _ _ (lt-ltb (i + 1) (length s) h) (eq-eqb _ _ e) in
      record { text = λ x. t; none = λ no. absurd (false≢true (sym no ∙ yes)) }
