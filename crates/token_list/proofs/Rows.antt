-- The row at an offset from which on rows of a right form stand.
use mathlib.Core.Path.{◌≡◌, refl, ap, ◌∙◌, sym, subst}
use mathlib.Core.Bool.{Bool, true, false, ◌&&◌, false≢true}
use mathlib.Core.List.{List, [], ◌∷◌, ◌++◌, append_assoc}
use Prim.Native.Nat.{ℕ, zero, suc, ◌+◌, ◌-◌, ◌≤◌, ◌<◌}
use native.Mathlib.Omega.{arith}
use borrow.Author.Tests.{leb-true, leb-false, le-leb}
use lib.Dec.{eqb, leb}
use lib.ListN.{length, get_or, take, drop, length-drop, length-append, drop_of_length-le}
use lib.Seq.{slice, length-slice, get_or-drop, get_or-take, get_or-append_seam, drop-drop, drop-append-add}
use Rattle.token_list.specs.Byte.{ONE, QUOTE, SPACE}
use Rattle.token_list.specs.Text.{LF}
use Rattle.token_list.specs.Layout.{marked, text_offset, IDENT, LITERAL, PUNCT}
use Rattle.token_list.specs.Row.{Row, lines, rows, form_of, first, mark_fits, mark_of, row_of, mark_byte}
use Rattle.token_list.specs.Row.{mark_column_lem, written}
use Rattle.token_list.specs.Check.{is_row, right, all_right}
use Rattle.token_list.specs.Stream.{rows_at, all_closed}
use Rattle.token_list.specs.Contract.{RowEnd, RightRows}
use Rattle.token_list.proofs.Texts.{and_parts, chosen, only}
use Rattle.token_list.proofs.Lines.{Scanned, scan_start, scan_more, scan_found}
use Rattle.token_list.proofs.Forms.{no_wrong, lf_kind, zero_kind, lf_text, no_text, single-wrong}
use Rattle.token_list.proofs.Columns.{offset_low, column_length}

pub rows_none : (s : List ℕ) (i : ℕ) → length s ≤ i → rows_at s i ≡ []
rows_none s i h = ap (λ (t : List ℕ). rows (marked s) (lines t)) (drop_of_length-le s {i = i} h)

-- ## The first row

pub record FirstRow (s : List ℕ) (i : ℕ) : Type 0 where
  pub row : Row
  pub rest : List Row
  pub here : rows_at s i ≡ row ∷ rest
  pub first : ℕ
  pub text : List ℕ
  pub texts : row.text ≡ first ∷ text
  pub bytes : drop i s ≡ row.kind ∷ SPACE ∷ mark_column_lem (marked s) row.joint ++ (first ∷ text ++ LF ∷
      written (marked s) rest)
  pub right : is_row (form_of row.kind (first ∷ text)) ≡ true

pub first-row : (s : List ℕ) (i : ℕ) → RightRows s i → i < length s → FirstRow s i
first-row s i w h = go (rows_at s i) refl
  where
    m : Bool
    m = marked s

    go : (rs : List Row) → rows_at s i ≡ rs → FirstRow s i
    go [] e = absurd (omega (arith, length-drop i s, ap length (w.written ∙ ap (written m) e)))
    go (r ∷ rs) e = texts r.text refl
      where
        f : is_row (form_of r.kind r.text) ≡ true
        f = (and_parts _ _ (and_parts (right m r) _ (sym (ap (all_right m) e) ∙ w.right)).0).0

        texts : (t : List ℕ) → r.text ≡ t → FirstRow s i
        texts [] q = absurd (no_wrong (ap (form_of r.kind) q ∙ no_text r.kind) f)
        texts (b ∷ t) q =
            record {
              row = r;
              rest = rs;
              here = e;
              first = b;
              text = t;
              texts = q;
              bytes = w.written ∙ ap (written m) e ∙
                  ap (λ (x : List ℕ). r.kind ∷ SPACE ∷ mark_column_lem m r.joint ++ (x ++ LF ∷ written m rs)) q;
              right = sym (ap (λ (x : List ℕ). is_row (form_of r.kind x)) q) ∙ f;
            }

-- no byte up to the text's first is an LF
columns_no_lf : (m j : Bool) (k b : ℕ) (x : List ℕ) (n : ℕ) → (k ≡ LF → ⊥) → (b ≡ LF → ⊥) → n ≤ text_offset m →
    get_or (k ∷ SPACE ∷ mark_column_lem m j ++ b ∷ x) n 0 ≡ LF → ⊥
columns_no_lf m j k b x zero p q h = p
columns_no_lf m j k b x (suc zero) p q h = λ e. absurd (omega (arith, e))
columns_no_lf false j k b x (suc (suc zero)) p q h = q
columns_no_lf false j k b x (suc (suc (suc n))) p q h = absurd (omega arith)
columns_no_lf true true k b x (suc (suc zero)) p q h = λ e. absurd (omega (arith, e))
columns_no_lf true false k b x (suc (suc zero)) p q h = λ e. absurd (omega (arith, e))
columns_no_lf true j k b x (suc (suc (suc zero))) p q h = λ e. absurd (omega (arith, e))
columns_no_lf true j k b x (suc (suc (suc (suc zero)))) p q h = q
columns_no_lf true j k b x (suc (suc (suc (suc (suc n))))) p q h = absurd (omega arith)

-- the byte at the text's offset
text-byte : (m j : Bool) (k b : ℕ) (x : List ℕ)
    → get_or (k ∷ SPACE ∷ mark_column_lem m j ++ b ∷ x) (text_offset m) 0 ≡ b
text-byte true j k b x = refl
text-byte false j k b x = refl

-- either mark fits a punctuation
mark_byte_fits : (j : Bool) → mark_fits PUNCT (mark_byte j) ≡ true
mark_byte_fits true = refl
mark_byte_fits false = refl

module _ (s : List ℕ) (i : ℕ) (f : FirstRow s i) where
  abbrev column : List ℕ
  column = mark_column_lem (marked s) f.row.joint

  abbrev after : List ℕ
  after = LF ∷ written (marked s) f.rest

  byte_at : (n : ℕ) → get_or s (i + n) 0 ≡ get_or (f.row.kind ∷ SPACE ∷ column ++ (f.first ∷ f.text ++ after)) n 0
  byte_at n = sym (get_or-drop i s n 0) ∙ ap (λ (t : List ℕ). get_or t n 0) f.bytes

  pub first_kind : f.row.kind ≡ get_or s i 0
  first_kind =
      let e : i + 0 ≡ i = omega arith in
      sym (byte_at 0) ∙ ap (λ (n : ℕ). get_or s n 0) e

  pub first_at : f.first ≡ get_or s (i + text_offset (marked s)) 0
  first_at =
      sym (byte_at (text_offset (marked s)) ∙
      text-byte (marked s) f.row.joint f.row.kind f.first (f.text ++ after))

  total : length s - i ≡ text_offset (marked s) + 1 + length f.text + length after
  total =
      sym (length-drop i s) ∙ ap length f.bytes ∙ omega (
        arith,
        column_length (marked s) f.row.joint,
        length-append column (f.first ∷ f.text ++ after),
        length-append f.text after,
      )

  pub text-within : i + text_offset (marked s) + 2 ≤ length s
  text-within = omega (arith, total)

  pub some_kind : f.row.kind ≡ 0 → ⊥
  some_kind e = no_wrong (zero_kind f.row.kind _ e) f.right

  no_lf : (n : ℕ) → n ≤ text_offset (marked s) → get_or s (i + n) 0 ≡ LF → ⊥
  no_lf n h e =
      columns_no_lf (marked s) f.row.joint f.row.kind f.first (f.text ++ after) n
      (λ q. no_wrong (lf_kind f.row.kind _ q) f.right)
      (λ q. no_wrong (lf_text f.row.kind f.first f.text q) f.right) h (sym (byte_at n) ∙ e)

  started : (n : ℕ) → n ≤ text_offset (marked s) + 1 → Scanned s i (i + n)
  started zero h = let e : i ≡ i + 0 = omega arith in subst (Scanned s i) e (scan_start s i)
  started (suc n) h =
      let e : i + n + 1 ≡ i + suc n = omega arith in
      subst (Scanned s i) e
      (scan_more s i (i + n) (omega (arith, text-within)) (no_lf n (omega arith)) (started n (omega arith)))

  -- where the row ends
  last : ℕ
  last = i + text_offset (marked s) + 1 + length f.text

  last_lf : get_or s last 0 ≡ LF
  unfolding last
  last_lf =
      let l = f.row.kind ∷ SPACE ∷ column ++ f.first ∷ f.text in
      let n : last ≡ i + length l =
      omega (arith, column_length (marked s) f.row.joint, length-append column (f.first ∷ f.text)) in
      let bytes : drop i s ≡ l ++ after =
      f.bytes ∙ ap (λ (t : List ℕ). f.row.kind ∷ SPACE ∷ t) (sym (append_assoc column (f.first ∷ f.text) after)) in
      ap (λ (k : ℕ). get_or s k 0) n ∙ sym (get_or-drop i s (length l) 0)
      ∙ ap (λ (t : List ℕ). get_or t (length l) 0) bytes ∙
      get_or-append_seam l LF (written (marked s) f.rest) 0

  -- the text is one byte, but that of a name or a literal
  alone : (f.row.kind ≡ IDENT → ⊥) → (f.row.kind ≡ LITERAL → ⊥) → f.text ≡ []
  alone p q = go f.text refl
    where
      go : (t : List ℕ) → f.text ≡ t → f.text ≡ []
      go [] e = e
      go (b ∷ t) e =
          absurd (no_wrong (single-wrong f.row.kind (f.first ∷ f.text) p q
          (ap (λ (t : List ℕ). only (f.first ∷ t)) (sym e))) f.right)

  -- where the list has marks, one stands before the text
  pub plain_at : (b : ℕ) → mark_fits PUNCT b ≡ false → get_or s (i + 2) 0 ≡ b → marked s ≡ false
  plain_at b n e = go (marked s) refl (byte_at 2)
    where
      l : Bool → List ℕ
      l m = f.row.kind ∷ SPACE ∷ mark_column_lem m f.row.joint ++ (f.first ∷ f.text ++ after)

      go : (m : Bool) → marked s ≡ m → get_or s (i + 2) 0 ≡ get_or (l m) 2 0 → marked s ≡ false
      go true q h = absurd (false≢true (sym n ∙ ap (mark_fits PUNCT) (sym e ∙ h) ∙ mark_byte_fits f.row.joint))
      go false q h = q

-- ## The scan for a row's end: an LF stands ahead

pub record Ahead (s : List ℕ) (i k : ℕ) : Type 0 where
  pub scanned : Scanned s i k
  pub end : ℕ
  pub ahead : k ≤ end
  pub within : end < length s
  pub lf : get_or s end 0 ≡ LF

module _ (s : List ℕ) (i : ℕ) (w : RightRows s i) (h : i < length s) where
  the_first : FirstRow s i
  the_first = first-row s i w h

  pub ahead_start : (n : ℕ) → n ≤ text_offset (marked s) + 1 → Ahead s i (i + n)
  unfolding last
  ahead_start n k =
      record {
        scanned = started s i the_first n k;
        end = last s i the_first;
        ahead = omega arith;
        within = omega (arith, total s i the_first, h);
        lf = last_lf s i the_first;
      }

  pub ahead_found : (k : ℕ) → get_or s k 0 ≡ LF → Ahead s i k → RowEnd s i k
  ahead_found k q a =
      let g : k < length s = omega (arith, a.ahead, a.within) in
      let text : i + text_offset (marked s) < k = past (leb k (i + text_offset (marked s))) refl in
      record {
        line = record {
          start = a.scanned.start;
          found = λ g. scan_found s i k g q a.scanned;
          none = λ n. absurd (omega (arith, n, g));
          lf = λ g. q;
        };
        text = text;
        long = omega (arith, text, offset_low (marked s));
        within = g;
      }
    where
      past : (b : Bool) → leb k (i + text_offset (marked s)) ≡ b → i + text_offset (marked s) < k
      past true e =
          let n : i + (k - i) ≡ k = omega (arith, a.scanned.start) in
          absurd (no_lf s i the_first (k - i) (omega (arith, leb-true k (i + text_offset (marked s)) e))
          (ap (λ (j : ℕ). get_or s j 0) n ∙ q))
      past false e = omega (arith, leb-false k (i + text_offset (marked s)) e)

  -- a punctuation's end
  pub punct_end : get_or s i 0 ≡ PUNCT → RowEnd s i (i + text_offset (marked s) + 1)
  unfolding last
  punct_end k =
      let off = text_offset (marked s) in
      let q = first_kind s i the_first ∙ k in
      let t = alone s i the_first (λ e. absurd (omega (arith, q, e))) (λ e. absurd (omega (arith, q, e))) in
      let n : last s i the_first ≡ i + (off + 1) = omega (arith, ap length t) in
      let to : i + (off + 1) ≡ i + off + 1 = omega arith in
      subst (RowEnd s i) to
      (ahead_found (i + (off + 1)) (ap (λ (j : ℕ). get_or s j 0) (sym n) ∙ last_lf s i the_first)
      (ahead_start (off + 1) (omega arith)))

pub ahead_more : (s : List ℕ) (i k : ℕ) → (get_or s k 0 ≡ LF → ⊥) → Ahead s i k → Ahead s i (k + 1)
ahead_more s i k q a =
    record {
      scanned = scan_more s i k (omega (arith, a.ahead, a.within)) q a.scanned;
      end = a.end;
      ahead = beyond (leb a.end k) refl;
      within = a.within;
      lf = a.lf;
    }
  where
    beyond : (b : Bool) → leb a.end k ≡ b → k + 1 ≤ a.end
    beyond true e =
        let same : k ≡ a.end = omega (arith, leb-true a.end k e, a.ahead) in
        absurd (q (ap (λ (n : ℕ). get_or s n 0) same ∙ a.lf))
    beyond false e = omega (arith, leb-false a.end k e)

-- ## The row itself, and the rows after it

-- the row at i, which ends at e
abbrev pub row_at : List ℕ → ℕ → ℕ → Row
row_at s i e =
    record {
      kind = get_or s i 0;
      joint = mark_of (marked s) (drop i s);
      text = slice (i + text_offset (marked s)) e s;
    }

first_of : (l : List ℕ) → first l ≡ get_or l 0 0
first_of [] = refl
first_of (b ∷ l) = refl

-- the same byte in a part of the list and in its rest
part-byte : (s : List ℕ) (i e n : ℕ) → i + n < e → get_or (slice i e s) n 0 ≡ get_or (drop i s) n 0
part-byte s i e n h = get_or-drop i (take e s) n 0 ∙ get_or-take e s (i + n) 0 h ∙ sym (get_or-drop i s n 0)

part-first : (s : List ℕ) (i e : ℕ) → i < e → first (slice i e s) ≡ first (drop i s)
part-first s i e h = first_of (slice i e s) ∙ part-byte s i e 0 (omega arith) ∙ sym (first_of (drop i s))

part_mark : (m : Bool) (s : List ℕ) (i e : ℕ) → i + text_offset m < e → mark_of m (slice i e s) ≡ mark_of m (drop i s)
part_mark true s i e h = ap (λ (b : ℕ). eqb b ONE) (part-byte s i e 2 (omega arith))
part_mark false s i e h =
    let text : first (drop 2 (slice i e s)) ≡ first (drop 2 (drop i s)) =
    ap first (drop-drop 2 i (take e s)) ∙ part-first s (i + 2) e (omega arith) ∙ ap first (sym (drop-drop 2 i s)) in
    ap (λ (k : ℕ). eqb k PUNCT && eqb (first (drop 2 (slice i e s))) QUOTE) (part-first s i e (omega arith))
    ∙ ap (λ (b : ℕ). eqb (first (drop i s)) PUNCT && eqb b QUOTE) text

part-row : (m : Bool) (s : List ℕ) (i e : ℕ) (rs : List Row) → i + text_offset m < e → e ≤ length s
    → row_of m (slice i e s) rs
    ≡ record { kind = get_or s i 0; joint = mark_of m (drop i s); text = slice (i + text_offset m) e s } ∷ rs
part-row m s i e rs h k =
    let long : text_offset m ≤ length (slice i e s) = omega (arith, length-slice i e s k) in
    let zero : i + 0 ≡ i = omega arith in
    let kind = part-first s i e (omega arith) ∙ first_of (drop i s) ∙ get_or-drop i s 0 0 ∙
    ap (λ (j : ℕ). get_or s j 0) zero in
    let text = drop-drop (text_offset m) i (take e s) in
    chosen _ _ _ (le-leb _ _ long)
    ∙ (λ x. record { kind = kind x; joint = part_mark m s i e h x; text = text x } ∷ rs)

pub row_at_lem : (s : List ℕ) (i e : ℕ) → RowEnd s i e → rows_at s i ≡ row_at s i e ∷ rows_at s (e + 1)
row_at_lem s i e l =
    ap (rows (marked s)) (l.line.found l.within)
    ∙ part-row (marked s) s i e (rows_at s (e + 1)) l.text (omega (arith, l.within))

-- the last byte of a text is its first, but of a name or a literal
pub last_byte : (s : List ℕ) (i e : ℕ) → RightRows s i → RowEnd s i e → (get_or s i 0 ≡ IDENT → ⊥) →
    (get_or s i 0 ≡ LITERAL → ⊥) → get_or s (e - 1) 0 ≡ first (slice (i + text_offset (marked s)) e s)
last_byte s i e w l p q =
    let start = i + text_offset (marked s) in
    let f = first-row s i w (omega (arith, l.text, l.within)) in
    let k = first_kind s i f in
    let t = alone s i f (λ x. p (sym k ∙ x)) (λ x. q (sym k ∙ x)) in
    let r : row_at s i e ≡ f.row = cc (f.here, row_at_lem s i e l) in
    let text : slice start e s ≡ f.first ∷ [] =
    ap (λ (r : Row). r.text) r ∙ f.texts ∙ ap (λ (t : List ℕ). f.first ∷ t) t in
    let n : e - 1 ≡ start =
    omega (arith, l.text, ap length text, length-slice start e s (omega (arith, l.within))) in
    ap (λ (j : ℕ). get_or s j 0) n ∙ sym (first_at s i f) ∙ sym (ap first text)

pub closed_next : (r : Row) (rs : List Row) → all_closed (r ∷ rs) ≡ true → all_closed rs ≡ true
closed_next r rs w = (and_parts (all_closed rs) _ w).0

-- past what stands before a text
pub past_columns : (m j : Bool) (k : ℕ) (x : List ℕ) → drop (text_offset m) (k ∷ SPACE ∷ mark_column_lem m j ++ x) ≡ x
past_columns true j k x = refl
past_columns false j k x = refl

pub right-rows_next : (s : List ℕ) (i e : ℕ) → RowEnd s i e → RightRows s i → RightRows s (e + 1)
right-rows_next s i e l w =
    let m = marked s in
    let off = text_offset m in
    let r = row_at s i e in
    let text = r.text in
    let rest = rows_at s (e + 1) in
    let here = row_at_lem s i e l in
    let n : i + off + (length text + 1) ≡ e + 1 =
    omega (arith, length-slice (i + off) e s (omega (arith, l.within)), l.text) in
    record {
      written =
          ap (λ (k : ℕ). drop k s) (sym n)
          ∙ sym (drop-drop (length text + 1) (i + off) s)
          ∙ ap (drop (length text + 1)) (sym (drop-drop off i s) ∙ ap (drop off) (w.written ∙ ap (written m) here)
          ∙ past_columns m r.joint r.kind (text ++ LF ∷ written m rest))
          ∙ drop-append-add text (LF ∷ written m rest) 1;
      right = (and_parts (right m r) (all_right m rest) (sym (ap (all_right m) here) ∙ w.right)).1;
      closed = closed_next r rest (sym (ap all_closed here) ∙ w.closed);
    }

-- ## Rows one after the other

pub written_append : (m : Bool) (rs qs : List Row) → written m (rs ++ qs) ≡ written m rs ++ written m qs
written_append m [] qs = refl
written_append m (r ∷ rs) qs =
    let column = mark_column_lem m r.joint in
    ap (λ (t : List ℕ). r.kind ∷ SPACE ∷ column ++ (r.text ++ LF ∷ t)) (written_append m rs qs)
    ∙ ap (λ (t : List ℕ). r.kind ∷ SPACE ∷ column ++ t)
    (sym (append_assoc r.text (LF ∷ written m rs) (written m qs)))
    ∙ ap (λ (t : List ℕ). r.kind ∷ SPACE ∷ t)
    (sym (append_assoc column (r.text ++ LF ∷ written m rs) (written m qs)))
