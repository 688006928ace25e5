-- Rows that nest pass the list check, within the limits of bytes and rows, and are read as they were written.
use mathlib.Core.Path.{◌≡◌, refl, ap, ◌∙◌, sym}
use mathlib.Core.Bool.{Bool, true, false, cond, not, ◌&&◌, ◌||◌, beq, false≢true}
use mathlib.Core.List.{List, [], ◌∷◌, ◌++◌, append_assoc}
use Prim.Native.Nat.{ℕ, ◌+◌, ◌≤◌, ◌<◌}
use native.Mathlib.Omega.{arith}
use borrow.Author.Tests.{not-true, eqb-true, ne_eqb, ltb-true, lt-leb, le-ltb}
use lib.Dec.{eqb, ltb}
use lib.ListN.{length, drop}
use Rattle.token_list.specs.Byte.{SPACE, LF, HASH}
use Rattle.token_list.specs.Layout.{IDENT, LITERAL, PUNCT, OPEN, CLOSE, marked, first_row, text_offset, MAX_BYTES}
use Rattle.token_list.specs.Layout.{MAX_ROWS, MAX_DEPTH}
use Rattle.token_list.specs.Text.{all, name, plain_name, name_start, name_part, raw_name, literal, literal_start}
use Rattle.token_list.specs.Text.{printable, single, punctuation, opening, closing, closer}
use Rattle.token_list.specs.Row.{Row, Lines, tail, line, lines, byte, rows, written, Form, plain, opens, closed}
use Rattle.token_list.specs.Row.{wrong, form, form_of, text_form, first, columns_fit, own_mark_lem, mark_of}
use Rattle.token_list.specs.Row.{line_row_lem}
use Rattle.token_list.specs.Row.{mark_column_lem, right_mark}
use Rattle.token_list.specs.Rows.{list_of}
use Rattle.token_list.specs.Check.{Answer, passed, Open, step, walk, check, is_row, right, all_right, closed_by}
use Rattle.token_list.specs.Check.{enclosing, nested}
use Rattle.token_list.specs.Stream.{rows_at}
use Rattle.token_list.proofs.Texts.{chosen, passed_over, and_both, and_parts}
use Rattle.token_list.proofs.Columns.{line_row}
use Rattle.token_list.proofs.Rows.{past_columns}
use Rattle.token_list.proofs.Passed.{open_form, close-form, plain_form, RightRow, right-row}
use Rattle.token_list.proofs.Passed.{delimiters, delimiters_length, balanced}

-- ## No LF stands in a row

-- bytes that pass a test which an LF fails
no_lf : (p : ℕ → Bool) (b : ℕ) → p LF ≡ false → p b ≡ true → eqb b LF ≡ false
no_lf p b f e = ne_eqb b LF (λ q. false≢true (sym f ∙ sym (ap p q) ∙ e))

abbrev clear : List ℕ → Bool
clear [] = true
clear (b ∷ bs) = not (eqb b LF) && clear bs

clear_all : (p : ℕ → Bool) (t : List ℕ) → p LF ≡ false → all p t ≡ true → clear t ≡ true
clear_all p [] f e = refl
clear_all p (b ∷ t) f e =
    let q = and_parts (p b) (all p t) e in and_both _ _ (ap not (no_lf p b f q.0)) (clear_all p t f q.1)

clear_single : (p : ℕ → Bool) (t : List ℕ) → p LF ≡ false → single p t ≡ true → clear t ≡ true
clear_single p [] f e = absurd (false≢true e)
clear_single p (b ∷ []) f e = and_both _ _ (ap not (no_lf p b f e)) refl
clear_single p (b ∷ c ∷ t) f e = absurd (false≢true e)

clear_plain : (t : List ℕ) → plain_name t ≡ true → clear t ≡ true
clear_plain [] e = refl
clear_plain (b ∷ t) e =
    let q = and_parts (name_start b) (all name_part t) e in
    and_both _ _ (ap not (no_lf name_start b refl q.0)) (clear_all name_part t refl q.1)

clear_raw : (t : List ℕ) → raw_name t ≡ true → clear t ≡ true
clear_raw [] e = refl
clear_raw (r ∷ []) e = absurd (false≢true e)
clear_raw (r ∷ h ∷ t) e =
    let q = and_parts (eqb r 114 && eqb h HASH) _ e in
    let m = and_parts (eqb r 114) (eqb h HASH) q.0 in
    and_both _ _ (ap not (no_lf (λ b. eqb b 114) r refl m.0))
    (and_both _ _ (ap not (no_lf (λ b. eqb b HASH) h refl m.1))
    (clear_plain t (and_parts (plain_name t) _ q.1).0))

clear_name : (t : List ℕ) → name t ≡ true → clear t ≡ true
clear_name t e = go (plain_name t) refl e
  where
    go : (b : Bool) → plain_name t ≡ b → (b || raw_name t) ≡ true → clear t ≡ true
    go true h e = clear_plain t h
    go false h e = clear_raw t e

clear_literal : (t : List ℕ) → literal t ≡ true → clear t ≡ true
clear_literal [] e = refl
clear_literal (b ∷ t) e = clear_all printable (b ∷ t) refl (and_parts (literal_start b) (all printable (b ∷ t)) e).1

-- kind and text of a row
clear_row : (k : ℕ) (t : List ℕ) → is_row (form_of k t) ≡ true → clear (k ∷ SPACE ∷ t) ≡ true
unfolding form_of
clear_row k t = go (eqb k IDENT) (eqb k LITERAL) (eqb k PUNCT) (eqb k OPEN) (eqb k CLOSE) refl refl refl refl refl
  where
    of : (b : ℕ) → eqb k b ≡ true → eqb b LF ≡ false → clear t ≡ true → clear (k ∷ SPACE ∷ t) ≡ true
    of b e f h = and_both _ _ (ap not (ap (λ (x : ℕ). eqb x LF) (eqb-true k b e) ∙ f)) h

    row : (x : Bool) (f : Form) → is_row (cond x f wrong) ≡ true → x ≡ true
    row true f e = refl
    row false f e = e

    go : (i l p o c : Bool) → eqb k IDENT ≡ i → eqb k LITERAL ≡ l → eqb k PUNCT ≡ p → eqb k OPEN ≡ o → eqb k CLOSE ≡ c
        → is_row (cond i (cond (name t) plain wrong) (cond l (cond (literal t) plain wrong)
        (cond p (cond (single punctuation t) plain wrong) (cond o (cond (single opening t) (opens (first t)) wrong)
        (cond c (cond (single closing t) (closed (first t)) wrong) wrong))))) ≡ true
        → clear (k ∷ SPACE ∷ t) ≡ true
    go true l p o c a b d e f h = of IDENT a refl (clear_name t (row _ _ h))
    go false true p o c a b d e f h = of LITERAL b refl (clear_literal t (row _ _ h))
    go false false true o c a b d e f h = of PUNCT d refl (clear_single punctuation t refl (row _ _ h))
    go false false false true c a b d e f h = of OPEN e refl (clear_single opening t refl (row _ (opens (first t)) h))
    go false false false false true a b d e f h = of CLOSE f refl
        (clear_single closing t refl (row _ (closed (first t)) h))
    go false false false false false a b d e f h = absurd (false≢true h)

lines_clear : (l rest : List ℕ) → clear l ≡ true → lines (l ++ LF ∷ rest) ≡ line l (lines rest)
lines_clear [] rest e = refl
lines_clear (b ∷ l) rest e =
    let q = and_parts (not (eqb b LF)) (clear l) e in
    (λ i. byte (not-true (eqb b LF) q.0 i) b (lines_clear l rest q.1 i))

-- ## A row as a line

module _ (m : Bool) where
  abbrev row_line : Row → List ℕ
  row_line r = r.kind ∷ SPACE ∷ mark_column_lem m r.joint ++ r.text

  -- nor does an LF stand in its columns
  clear_line : (r : Row) → is_row (form_of r.kind r.text) ≡ true → clear (row_line r) ≡ true
  clear_line r e = go m r.joint (clear_row r.kind r.text e)
    where
      go : (m j : Bool) → clear (r.kind ∷ SPACE ∷ r.text) ≡ true
          → clear (r.kind ∷ SPACE ∷ mark_column_lem m j ++ r.text) ≡ true
      go true true h = h
      go true false h = h
      go false j h = h

  row-line : (r : Row) (rs : List Row) → is_row (form_of r.kind r.text) ≡ true
      → lines (written m (r ∷ rs)) ≡ line (row_line r) (lines (written m rs))
  row-line r rs e =
      sym (ap (λ (t : List ℕ). lines (r.kind ∷ SPACE ∷ t))
      (append_assoc (mark_column_lem m r.joint) r.text (LF ∷ written m rs)))
      ∙ lines_clear (row_line r) (written m rs) (clear_line r e)

  line_fits : (r : Row) → right_mark m r ≡ true → columns_fit m (row_line r) ≡ true
  line_fits r e = go m r.joint e
    where
      go : (m j : Bool) → right_mark m (record { kind = r.kind; joint = j; text = r.text }) ≡ true
          → columns_fit m (r.kind ∷ SPACE ∷ mark_column_lem m j ++ r.text) ≡ true
      go true true h = ap (λ (b : Bool). (b && true) && true) h
      go true false h = refl
      go false j h = refl

  line-text : (r : Row) → drop (text_offset m) (row_line r) ≡ r.text
  line-text r = past_columns m r.joint r.kind r.text

  -- its own row again
  line_same : (r : Row) → right_mark m r ≡ true → line_row_lem m (row_line r) ≡ r
  line_same r e = λ i. record { kind = r.kind; joint = mark m r.joint e i; text = line-text r i }
    where
      same : (j o : Bool) → beq j o ≡ true → o ≡ j
      same true true e = refl
      same true false e = e
      same false true e = sym e
      same false false e = refl

      mark : (m j : Bool) → right_mark m (record { kind = r.kind; joint = j; text = r.text }) ≡ true
          → mark_of m (r.kind ∷ SPACE ∷ mark_column_lem m j ++ r.text) ≡ j
      mark true true h = refl
      mark true false h = refl
      mark false j h = same j (own_mark_lem r.kind r.text) h

  line-form : (r : Row) → RightRow m r → form m (row_line r) ≡ form_of r.kind r.text
  line-form r h =
      chosen _ _ _ (line_fits r h.mark) ∙ ap (text_form r.kind) (line-text r) ∙ chosen _ _ _ h.short

  -- all of them
  abbrev pub lines_of : List Row → Lines
  lines_of [] = tail []
  lines_of (r ∷ rs) = line (row_line r) (lines_of rs)

  pub lines-written : (rs : List Row) → all_right m rs ≡ true → lines (written m rs) ≡ lines_of rs
  lines-written [] e = refl
  lines-written (r ∷ rs) e =
      let p = and_parts (right m r) (all_right m rs) e in
      row-line r rs (right-row m r p.0).formed ∙ ap (line (row_line r)) (lines-written rs p.1)

  pub rows-lines : (rs : List Row) → all_right m rs ≡ true → rows m (lines_of rs) ≡ rs
  rows-lines [] e = refl
  rows-lines (r ∷ rs) e =
      let p = and_parts (right m r) (all_right m rs) e in
      let mark = (right-row m r p.0).mark in
      line_row m (row_line r) (rows m (lines_of rs)) (line_fits r mark)
      ∙ (λ i. line_same r mark i ∷ rows-lines rs p.1 i)

-- ## The walk

-- the form of a row that is right
row_by : {f : Form} (t : Bool) (g : Form) → f ≡ cond t g wrong → is_row f ≡ true → f ≡ g
row_by {f} t g e h = go t e
  where
    go : (t : Bool) → f ≡ cond t g wrong → f ≡ g
    go true e = e
    go false e = absurd (false≢true (sym (ap is_row e) ∙ h))

module _ (k : ℕ) (t : List ℕ) (row : is_row (form_of k t) ≡ true) where
  open_row : eqb k OPEN ≡ true → form_of k t ≡ opens (first t)
  open_row o = row_by (single opening t) (opens (first t)) (open_form k t o) row

  close_row : eqb k CLOSE ≡ true → form_of k t ≡ closed (first t)
  close_row c = row_by (single closing t) (closed (first t)) (close-form k t c) row

  plain_row : eqb k OPEN ≡ false → eqb k CLOSE ≡ false → form_of k t ≡ plain
  plain_row o c = let p = plain_form k t o c in row_by p.0 plain p.1 row

module _ (m : Bool) (rs : List Row) (n : ℕ)
    (ih : (k : ℕ) (gs : List Open) → nested m (delimiters gs) rs ≡ true → k + length rs ≡ n
    → walk m k gs (lines (written m rs)) ≡ passed n)
    (k : ℕ) (count : k + 1 + length rs ≡ n) where
  abbrev go : List Open → Answer
  go hs = walk m (k + 1) hs (lines (written m rs))

  close-step : (gs : List Open) (d : ℕ)
      → (closed_by (delimiters gs) d && nested m (enclosing (delimiters gs)) rs) ≡ true
      → step k gs (closed d) go ≡ passed n
  close-step [] d e = absurd (false≢true e)
  close-step (g ∷ gs) d e =
      let p = and_parts (eqb (closer g.delimiter) d) _ e in chosen _ _ _ p.0 ∙ ih (k + 1) gs p.1 count

  row_step : (gs : List Open) (r : Row) → nested m (delimiters gs) (r ∷ rs) ≡ true
      → step k gs (form_of r.kind r.text) go ≡ passed n
  row_step gs r e = kind (eqb r.kind OPEN) (eqb r.kind CLOSE) refl refl
    where
      row : is_row (form_of r.kind r.text) ≡ true
      row = (right-row m r (and_parts (right m r) _ e).0).formed

      formed : {f : Form} → form_of r.kind r.text ≡ f → step k gs f go ≡ passed n
          → step k gs (form_of r.kind r.text) go ≡ passed n
      formed q h = ap (λ (f : Form). step k gs f go) q ∙ h

      kind : (o c : Bool) → eqb r.kind OPEN ≡ o → eqb r.kind CLOSE ≡ c
          → step k gs (form_of r.kind r.text) go ≡ passed n
      kind true c a b =
          let p = and_parts (ltb (length (delimiters gs)) MAX_DEPTH) _
          (sym (chosen _ _ _ a) ∙ (and_parts (right m r) _ e).1) in
          let free : length gs < MAX_DEPTH = omega
          (arith, ltb-true (length (delimiters gs)) MAX_DEPTH p.0, delimiters_length gs) in
          let opened : Open = record { delimiter = first r.text; row = k } in
          formed (open_row r.kind r.text row a)
          (passed_over _ _ _ (lt-leb MAX_DEPTH (length gs) free) ∙ ih (k + 1) (opened ∷ gs) p.1 count)
      kind false true a b =
          formed (close_row r.kind r.text row b)
          (close-step gs (first r.text) (sym (passed_over _ _ _ a ∙ chosen _ _ _ b) ∙ (and_parts (right m r) _ e).1))
      kind false false a b =
          formed (plain_row r.kind r.text row a b)
          (ih (k + 1) gs (sym (passed_over _ _ _ a ∙ passed_over _ _ _ b) ∙ (and_parts (right m r) _ e).1) count)

  line_step : (gs : List Open) (r : Row) → k < MAX_ROWS → nested m (delimiters gs) (r ∷ rs) ≡ true
      → walk m k gs (lines (written m (r ∷ rs))) ≡ passed n
  line_step gs r l e =
      let h = right-row m r (and_parts (right m r) _ e).0 in
      ap (walk m k gs) (row-line m r rs h.formed)
      ∙ passed_over _ _ _ (lt-leb MAX_ROWS k l)
      ∙ ap (λ (f : Form). step k gs f go) (line-form m r h)
      ∙ row_step gs r e

walk-nested : (m : Bool) (rs : List Row) (n k : ℕ) (gs : List Open) → n ≤ MAX_ROWS
    → nested m (delimiters gs) rs ≡ true
    → k + length rs ≡ n
    → walk m k gs (lines (written m rs)) ≡ passed n
walk-nested m [] n k [] l e c = ap passed (omega arith)
walk-nested m [] n k (g ∷ gs) l e c = absurd (false≢true e)
walk-nested m (r ∷ rs) n k gs l e c =
    line_step m rs n (λ k gs e c. walk-nested m rs n k gs l e c) k (omega arith) gs r (omega arith) e

-- ## The law: within the limits the list passes the check, and its names and rows are those that were written

pub nested_passes : (m : Bool) (rs : List Row) → nested m [] rs ≡ true → length (list_of m rs) ≤ MAX_BYTES
    → length rs ≤ MAX_ROWS
    → check (list_of m rs) ≡ passed (length rs)
unfolding check marked first_row
nested_passes true rs e b l =
    passed_over _ _ _ (le-ltb MAX_BYTES (length (list_of true rs)) b)
    ∙ walk-nested true rs (length rs) 0 [] l e (omega arith)
nested_passes false rs e b l =
    passed_over _ _ _ (le-ltb MAX_BYTES (length (list_of false rs)) b)
    ∙ walk-nested false rs (length rs) 0 [] l e (omega arith)

pub list_marked : (m : Bool) (rs : List Row) → marked (list_of m rs) ≡ m
unfolding marked
list_marked true rs = refl
list_marked false rs = refl

rows_again : (m : Bool) (rs : List Row) → nested m [] rs ≡ true → rows m (lines (written m rs)) ≡ rs
rows_again m rs e =
    let right = (balanced m rs [] e).right in ap (rows m) (lines-written m rs right) ∙ rows-lines m rs right

pub list_rows : (m : Bool) (rs : List Row) → nested m [] rs ≡ true
    → rows_at (list_of m rs) (first_row (list_of m rs)) ≡ rs
unfolding marked first_row
list_rows true rs e = rows_again true rs e
list_rows false rs e = rows_again false rs e
