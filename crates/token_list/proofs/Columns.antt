-- Laws on what stands before a row's text, with marks or without, and on the offset of the first row.
use Rattle.std.specs.Prelude.{Option, Some, None, IfSome}
use Rattle.std.proofs.lemmas.Option.{IfSome_then}
use lib.Pointwise.{pointwise}
use mathlib.Core.Path.{◌≡◌, refl, ap, ◌∙◌, sym, subst}
use mathlib.Core.Bool.{Bool, true, false, not, cond, ◌&&◌, ◌||◌, beq, false≢true}
use mathlib.Core.List.{List, [], ◌∷◌, ◌++◌}
use Prim.Native.Nat.{ℕ, ◌+◌, ◌≤◌, ◌<◌}
use native.Mathlib.Omega.{arith}
use borrow.Author.Tests.{eqb-true, le-leb, leb-true, ltb-true, ltb-false}
use lib.Dec.{eqb, leb, ltb}
use lib.ListN.{length, get_or, take, drop, length-drop}
use lib.ListN.{get_or-eq_default}
use lib.Seq.{drop-drop}
use Rattle.token_list.specs.Byte.{ONE, QUOTE, SPACE, ZERO, code}
use Rattle.token_list.specs.Text.{same, LF}
use Rattle.token_list.specs.Layout.{names, marked, first_row, text_offset, PUNCT}
use Rattle.token_list.specs.Row.{Row, Lines, tail, line, lines, front, byte, wrong, form, text_form, first}
use Rattle.token_list.specs.Row.{mark_fits, columns_fit, own_mark_lem, mark_of, line_row_lem, row_of, mark_byte}
use Rattle.token_list.specs.Row.{mark_column_lem}
use Rattle.token_list.specs.Row.{right_mark}
use Rattle.token_list.specs.Check.{named}
use Rattle.token_list.specs.Contract.{line_form, formed, spaced, mark_stands_lem, RowShaped, TextShaped, ColumnShaped}
use Rattle.token_list.specs.declared.row.Line.{Line}
use Rattle.token_list.proofs.Texts.{chosen, passed_over, and_fails, and_last}
use Rattle.token_list.proofs.Texts.{and_parts, drop_next, same_fits, same_pointwise, same_swap}
use Rattle.token_list.proofs.Lines.{prepend, joined, joined_lines}
use Rattle.token_list.proofs.Forms.{lf_kind, no_line, no_shape}

-- ## Offsets

pub offset_low : (m : Bool) → 2 ≤ text_offset m
offset_low true = omega arith
offset_low false = omega arith

pub column_length : (m j : Bool) → 2 + length (mark_column_lem m j) ≡ text_offset m
column_length true j = refl
column_length false j = refl

pub first-row_low : (s : List ℕ) → 10 ≤ first_row s
unfolding first_row
first-row_low s = go (marked s)
  where
    go : (m : Bool) → 10 ≤ length (names m)
    go true = omega arith
    go false = omega arith

-- ## Marks that fit

-- `0`, or `1` of punctuation
data Fits (k j : ℕ) : Type 0 where
  zero_mark : j ≡ ZERO → Fits k j
  one_mark : j ≡ ONE → eqb k PUNCT ≡ true → Fits k j

fits : (k j : ℕ) → mark_fits k j ≡ true → Fits k j
fits k j e = go (eqb j ZERO) refl e
  where
    go : (b : Bool) → eqb j ZERO ≡ b → (b || (eqb k PUNCT && eqb j ONE)) ≡ true → Fits k j
    go true q e = zero_mark (eqb-true j ZERO q)
    go false q e = let p = and_parts (eqb k PUNCT) (eqb j ONE) e in one_mark (eqb-true j ONE p.1) p.0

mark_no_lf : (k j : ℕ) → Fits k j → eqb j LF ≡ false
mark_no_lf k j (zero_mark e) = ap (λ (x : ℕ). eqb x LF) e
mark_no_lf k j (one_mark e p) = ap (λ (x : ℕ). eqb x LF) e

mark_again : (k j : ℕ) → Fits k j → j ≡ mark_byte (eqb j ONE)
mark_again k j (zero_mark e) = e ∙ sym (ap (λ (x : ℕ). mark_byte (eqb x ONE)) e)
mark_again k j (one_mark e p) = e ∙ sym (ap (λ (x : ℕ). mark_byte (eqb x ONE)) e)

mark_right : (k j : ℕ) → Fits k j → (not (eqb j ONE) || eqb k PUNCT) ≡ true
mark_right k j (zero_mark e) = ap (λ (x : ℕ). not (eqb x ONE) || eqb k PUNCT) e
mark_right k j (one_mark e p) = ap (λ (x : ℕ). not (eqb x ONE) || eqb k PUNCT) e ∙ p

pub beq_self : (b : Bool) → beq b b ≡ true
beq_self true = refl
beq_self false = refl

-- ## A line whose columns fit

record Four (k s j u : ℕ) : Type 0 where
  space : s ≡ SPACE
  mark : Fits k j
  after : u ≡ SPACE

four : (k s j u : ℕ) → (eqb s SPACE && (mark_fits k j && eqb u SPACE)) ≡ true → Four k s j u
four k s j u e =
    let p = and_parts (eqb s SPACE) _ e in
    let q = and_parts (mark_fits k j) (eqb u SPACE) p.1 in
    record { space = eqb-true s SPACE p.0; mark = fits k j q.0; after = eqb-true u SPACE q.1 }

-- the bytes of a line are those of its row
pub line-bytes : (m : Bool) (l : List ℕ) → columns_fit m l ≡ true →
    l ≡ first l ∷ SPACE ∷ mark_column_lem m (mark_of m l) ++ drop (text_offset m) l
line-bytes m [] e = absurd (false≢true e)
line-bytes m (k ∷ []) e = absurd (false≢true e)
line-bytes false (k ∷ s ∷ t) e = ap (λ (x : ℕ). k ∷ x ∷ t) (eqb-true s SPACE e)
line-bytes true (k ∷ s ∷ []) e = absurd (false≢true e)
line-bytes true (k ∷ s ∷ j ∷ []) e = absurd (false≢true e)
line-bytes true (k ∷ s ∷ j ∷ u ∷ t) e =
    let f = four k s j u e in
    ap (λ (x : ℕ). k ∷ x ∷ j ∷ u ∷ t) f.space
    ∙ ap (λ (x : ℕ). k ∷ SPACE ∷ x ∷ u ∷ t) (mark_again k j f.mark)
    ∙ ap (λ (x : ℕ). k ∷ SPACE ∷ mark_byte (eqb j ONE) ∷ x ∷ t) f.after

pub line_long : (m : Bool) (l : List ℕ) → columns_fit m l ≡ true → leb (text_offset m) (length l) ≡ true
line_long m [] e = absurd (false≢true e)
line_long m (k ∷ []) e = absurd (false≢true e)
line_long false (k ∷ s ∷ t) e = le-leb 2 (length (k ∷ s ∷ t)) (omega arith)
line_long true (k ∷ s ∷ []) e = absurd (false≢true e)
line_long true (k ∷ s ∷ j ∷ []) e = absurd (false≢true e)
line_long true (k ∷ s ∷ j ∷ u ∷ t) e = le-leb 4 (length (k ∷ s ∷ j ∷ u ∷ t)) (omega arith)

pub line_row : (m : Bool) (l : List ℕ) (rs : List Row) → columns_fit m l ≡ true → row_of m l rs ≡ line_row_lem m l ∷ rs
line_row m l rs e = chosen _ _ _ (line_long m l e)

pub line_mark : (m : Bool) (l : List ℕ) → columns_fit m l ≡ true → right_mark m (line_row_lem m l) ≡ true
line_mark m [] e = absurd (false≢true e)
line_mark m (k ∷ []) e = absurd (false≢true e)
line_mark false (k ∷ s ∷ t) e = beq_self (own_mark_lem k t)
line_mark true (k ∷ s ∷ []) e = absurd (false≢true e)
line_mark true (k ∷ s ∷ j ∷ []) e = absurd (false≢true e)
line_mark true (k ∷ s ∷ j ∷ u ∷ t) e = mark_right k j (four k s j u e).mark

-- ## The first line of bytes, by what stands first in them

-- a byte in front that is no LF
fronted : (b : ℕ) (bs : List ℕ) → eqb b LF ≡ false → lines (b ∷ bs) ≡ front b (lines bs)
fronted b bs e = ap (λ (t : Bool). byte t b (lines bs)) e

no_lf : (s : ℕ) → s ≡ SPACE → eqb s LF ≡ false
no_lf s e = ap (λ (x : ℕ). eqb x LF) e

two_fronts : (k s : ℕ) (ls : Lines) → front k (front s ls) ≡ prepend (k ∷ s ∷ []) ls
two_fronts k s (tail t) = refl
two_fronts k s (line l ls) = refl

four_fronts : (k s j u : ℕ) (ls : Lines) → front k (front s (front j (front u ls))) ≡ prepend (k ∷ s ∷ j ∷ u ∷ []) ls
four_fronts k s j u (tail t) = refl
four_fronts k s j u (line l ls) = refl

-- columns that fit stand in front of the line of the text, if the kind is no LF
pub columns_line : (m : Bool) (bs : List ℕ) → columns_fit m bs ≡ true → eqb (first bs) LF ≡ false →
    lines bs ≡ prepend (take (text_offset m) bs) (lines (drop (text_offset m) bs))
columns_line m [] e n = absurd (false≢true e)
columns_line m (k ∷ []) e n = absurd (false≢true e)
columns_line false (k ∷ s ∷ t) e n =
    fronted k (s ∷ t) n ∙ ap (front k) (fronted s t (no_lf s (eqb-true s SPACE e))) ∙ two_fronts k s (lines t)
columns_line true (k ∷ s ∷ []) e n = absurd (false≢true e)
columns_line true (k ∷ s ∷ j ∷ []) e n = absurd (false≢true e)
columns_line true (k ∷ s ∷ j ∷ u ∷ t) e n =
    let f = four k s j u e in
    fronted k (s ∷ j ∷ u ∷ t) n
    ∙ ap (front k) (fronted s (j ∷ u ∷ t) (no_lf s f.space))
    ∙ ap (λ (ls : Lines). front k (front s ls)) (fronted j (u ∷ t) (mark_no_lf k j f.mark))
    ∙ ap (λ (ls : Lines). front k (front s (front j ls))) (fronted u t (no_lf u f.after))
    ∙ four_fronts k s j u (lines t)

-- a line with the same columns and any text
form_again : (m : Bool) (bs l : List ℕ) → columns_fit m bs ≡ true →
    form m (take (text_offset m) bs ++ l) ≡ text_form (first bs) l
form_again m [] l e = absurd (false≢true e)
form_again m (k ∷ []) l e = absurd (false≢true e)
form_again false (k ∷ s ∷ t) l e = chosen _ _ _ e
form_again true (k ∷ s ∷ []) l e = absurd (false≢true e)
form_again true (k ∷ s ∷ j ∷ []) l e = absurd (false≢true e)
form_again true (k ∷ s ∷ j ∷ u ∷ t) l e = chosen _ _ _ e

formed_again : (m : Bool) (bs : List ℕ) (ls : Lines) → columns_fit m bs ≡ true →
    formed (form m) (prepend (take (text_offset m) bs) ls) ≡ formed (text_form (first bs)) ls
formed_again m bs (tail t) e = refl
formed_again m bs (line l ls) e = form_again m bs l e

-- no kind is an LF
any-wrong : (b : Bool) → cond b wrong wrong ≡ wrong
any-wrong true = refl
any-wrong false = refl

lf_formed : (k : ℕ) (ls : Lines) → k ≡ LF → formed (text_form k) ls ≡ wrong
lf_formed k (tail t) e = refl
lf_formed k (line l ls) e = rw (lf_kind k l e) (any-wrong (leb (length l) 255))

lf_line : (m : Bool) (bs : List ℕ) → columns_fit m bs ≡ true → eqb (first bs) LF ≡ true →
    formed (form m) (lines bs) ≡ wrong
lf_line m [] e q = absurd (false≢true e)
lf_line m (k ∷ bs) e q = ap (λ (t : Bool). formed (form m) (byte t k (lines bs))) q

pub columns_formed : (m : Bool) (bs : List ℕ) → columns_fit m bs ≡ true →
    formed (form m) (lines bs) ≡ formed (text_form (first bs)) (lines (drop (text_offset m) bs))
columns_formed m bs e = go (eqb (first bs) LF) refl
  where
    go : (b : Bool) → eqb (first bs) LF ≡ b
        → formed (form m) (lines bs) ≡ formed (text_form (first bs)) (lines (drop (text_offset m) bs))
    go true q = lf_line m bs e q ∙ sym (lf_formed (first bs) (lines (drop (text_offset m) bs))
        (eqb-true (first bs) LF q))
    go false q = ap (formed (form m)) (columns_line m bs e q) ∙ formed_again m bs (lines (drop (text_offset m) bs)) e

-- columns that do not fit
longer_fits : (m : Bool) (l bs : List ℕ) → columns_fit m l ≡ true → columns_fit m (l ++ bs) ≡ true
longer_fits m [] bs e = absurd (false≢true e)
longer_fits m (k ∷ []) bs e = absurd (false≢true e)
longer_fits false (k ∷ s ∷ t) bs e = e
longer_fits true (k ∷ s ∷ []) bs e = absurd (false≢true e)
longer_fits true (k ∷ s ∷ j ∷ []) bs e = absurd (false≢true e)
longer_fits true (k ∷ s ∷ j ∷ u ∷ t) bs e = e

columns_wrong : (m : Bool) (bs : List ℕ) → columns_fit m bs ≡ false → formed (form m) (lines bs) ≡ wrong
columns_wrong m bs e = go (lines bs) (joined_lines bs)
  where
    go : (ls : Lines) → joined ls ≡ bs → formed (form m) ls ≡ wrong
    go (tail t) q = refl
    go (line l ls) q = pick (columns_fit m l) refl
      where
        pick : (b : Bool) → columns_fit m l ≡ b → form m l ≡ wrong
        pick true f = absurd (false≢true (sym e ∙ ap (columns_fit m) (sym q) ∙ longer_fits m l (LF ∷ joined ls) f))
        pick false f = passed_over _ _ _ f

-- ## The row at an offset, by its columns and its text

row-shaped : (m : Bool) (s : List ℕ) (i : ℕ) (r : Option Line) → columns_fit m (drop i s) ≡ true →
    TextShaped (first (drop i s)) s (i + text_offset m) r → RowShaped m s i r
row-shaped m s i r e t =
    let off = text_offset m in
    let bs = drop i s in
    let text : lines (drop off bs) ≡ lines (drop (i + off) s) = ap lines (drop-drop off i s) in
    let same = columns_formed m bs e ∙ ap (formed (text_form (first bs))) text in
    let low = offset_low m in
    record {
      right = t.right ∙ sym same;
      past = IfSome_then r t.past (λ x p. (omega (arith, low, p.0), p.1));
      rest = kind r (eqb (first bs) LF) refl t.right t.rest;
    }
  where
    kind : (r : Option Line) (b : Bool) → eqb (first (drop i s)) LF ≡ b
        → line_form r ≡ formed (text_form (first (drop i s))) (lines (drop (i + text_offset m) s))
        → IfSome r (λ x. (l : List ℕ) × (lines (drop (i + text_offset m) s) ≡ line l (lines (drop x.next s))))
        → IfSome r (λ x. (l : List ℕ) × (lines (drop i s) ≡ line l (lines (drop x.next s))))
    kind None b q right x = tt
    kind (Some l) true q right x = absurd (no_shape l.shape (right ∙ lf_formed (first (drop i s))
        (lines (drop (i + text_offset m) s)) (eqb-true (first (drop i s)) LF q)))
    kind (Some l) false q right x = (
      take (text_offset m) (drop i s) ++ x.0,
      columns_line m (drop i s) e q ∙ ap (λ (ls : Lines). prepend (take (text_offset m) (drop i s)) ls)
          (ap lines (drop-drop (text_offset m) i s) ∙ x.1),
    )

-- columns that fit stand in the list
pub columns_within : (m : Bool) (s : List ℕ) (i : ℕ) → columns_fit m (drop i s) ≡ true →
    (i < length s) × (i + text_offset m ≤ length s)
columns_within m s i e =
    let h = leb-true (text_offset m) (length (drop i s)) (line_long m (drop i s) e) in
    let low = offset_low m in
    (omega (arith, length-drop i s, h, low), omega (arith, length-drop i s, h, low))

pub columns_kind : (m : Bool) (s : List ℕ) (i : ℕ) → columns_fit m (drop i s) ≡ true → get_or s i 0 ≡ first (drop i s)
columns_kind m s i e = ap first (sym (drop_next s i (columns_within m s i e).0))

-- ## Columns byte by byte

and_assoc : (a b c : Bool) → (a && (b && c)) ≡ ((a && b) && c)
and_assoc true b c = refl
and_assoc false b c = refl

module _ (s : List ℕ) (i : ℕ) where
  columns_short : (m : Bool) → length s < i + text_offset m → columns_fit m (drop i s) ≡ false
  columns_short m h = go m (drop i s) (omega (arith, length-drop i s, offset_low m))
    where
      go : (m : Bool) (bs : List ℕ) → length bs < text_offset m → columns_fit m bs ≡ false
      go m [] h = refl
      go m (k ∷ []) h = refl
      go false (k ∷ s ∷ t) h = absurd (omega arith)
      go true (k ∷ s ∷ []) h = refl
      go true (k ∷ s ∷ j ∷ []) h = refl
      go true (k ∷ s ∷ j ∷ u ∷ t) h = absurd (omega arith)

  two : i + 1 < length s → drop i s ≡ get_or s i 0 ∷ get_or s (i + 1) 0 ∷ drop (i + 2) s
  two h =
      let n : i + 1 + 1 ≡ i + 2 = omega arith in
      drop_next s i (omega arith)
      ∙ ap (λ (x : List ℕ). get_or s i 0 ∷ x) (drop_next s (i + 1) h ∙ ap (λ (k : ℕ). get_or s (i + 1) 0 ∷ drop k s) n)

  -- without marks the kind is the last column
  columns_plain : columns_fit false (drop i s) ≡ spaced s i
  columns_plain = go (ltb (i + 1) (length s)) refl
    where
      go : (b : Bool) → ltb (i + 1) (length s) ≡ b →
          columns_fit false (drop i s) ≡ (b && eqb (get_or s (i + 1) 0) SPACE)
      go true e = ap (columns_fit false) (two (ltb-true _ _ e))
      go false e = columns_short false (omega (arith, ltb-false (i + 1) (length s) e))

  columns_four : i + 3 < length s → columns_fit true (drop i s) ≡ (eqb (get_or s (i + 1) 0) SPACE &&
      (mark_fits (get_or s i 0) (get_or s (i + 2) 0) && eqb (get_or s (i + 3) 0) SPACE))
  columns_four h =
      let n : i + 2 + 1 ≡ i + 3 = omega arith in
      ap (columns_fit true)
      (two (omega arith)
      ∙ ap (λ (x : List ℕ). get_or s i 0 ∷ get_or s (i + 1) 0 ∷ x)
      (drop_next s (i + 2) (omega arith) ∙ ap (λ (k : ℕ). get_or s (i + 2) 0 ∷ drop k s) n
      ∙ ap (λ (x : List ℕ). get_or s (i + 2) 0 ∷ x) (drop_next s (i + 3) h)))

  -- with marks it is the mark
  columns_marked : columns_fit true (drop i s) ≡ (mark_stands_lem s i && spaced s (i + 2))
  columns_marked = go (ltb (i + 3) (length s)) refl
    where
      fit : Bool
      fit = eqb (get_or s (i + 1) 0) SPACE && mark_fits (get_or s i 0) (get_or s (i + 2) 0)

      go : (b : Bool) → ltb (i + 3) (length s) ≡ b →
          columns_fit true (drop i s) ≡ ((b && fit) && spaced s (i + 2))
      go true e =
          let n : i + 2 + 1 ≡ i + 3 = omega arith in
          let same : eqb (get_or s (i + 3) 0) SPACE ≡ spaced s (i + 2) =
          sym (ap (λ (k : ℕ). ltb k (length s) && eqb (get_or s k 0) SPACE) n ∙ and_last _ _ e) in
          columns_four (ltb-true _ _ e)
          ∙ and_assoc (eqb (get_or s (i + 1) 0) SPACE) (mark_fits (get_or s i 0) (get_or s (i + 2) 0)) _
          ∙ ap (λ (x : Bool). fit && x) same
      go false e = columns_short true (omega (arith, ltb-false (i + 3) (length s) e))

-- `column` is the last one before the text of the row at `at`
pub record LastColumn (m : Bool) (s : List ℕ) (at column : ℕ) : Type 0 where
  pub fits : columns_fit m (drop at s) ≡ spaced s column
  pub text : column + 2 ≡ at + text_offset m
  pub within : column ≤ length s

module _ (m : Bool) (s : List ℕ) (at : ℕ) where
  pub plain_column : m ≡ false → at < length s → LastColumn m s at at
  plain_column e h =
      record {
        fits = ap (λ (x : Bool). columns_fit x (drop at s)) e ∙ columns_plain s at;
        text = sym (ap (λ (x : Bool). at + text_offset x) e);
        within = omega arith;
      }

  pub marked-column : m ≡ true → mark_stands_lem s at ≡ true → LastColumn m s at (at + 2)
  marked-column e stands =
      let h = ltb-true (at + 3) (length s) (and_parts (ltb (at + 3) (length s)) _ stands).0 in
      let n : at + 2 + 2 ≡ at + 4 = omega arith in
      record {
        fits = ap (λ (x : Bool). columns_fit x (drop at s)) e ∙ columns_marked s at ∙ and_last _ _ stands;
        text = n ∙ sym (ap (λ (x : Bool). at + text_offset x) e);
        within = omega (arith, h);
      }

  pub no_mark : m ≡ true → mark_stands_lem s at ≡ false → formed (form m) (lines (drop at s)) ≡ wrong
  no_mark e stands =
      columns_wrong m (drop at s)
      (ap (λ (x : Bool). columns_fit x (drop at s)) e ∙ columns_marked s at ∙ and_fails _ _ stands)

  -- the row by what stands behind its last column
  pub row-column : (column : ℕ) (r : Option Line) → LastColumn m s at column → ColumnShaped (get_or s at 0) s column r →
      RowShaped m s at r
  row-column column r l c = go (spaced s column) refl
    where
      go : (b : Bool) → spaced s column ≡ b → RowShaped m s at r
      go true e =
          let fit = l.fits ∙ e in
          let text = subst (λ (n : ℕ). TextShaped (get_or s at 0) s n r) l.text (c.text e) in
          row-shaped m s at r fit
          (subst (λ (k : ℕ). TextShaped k s (at + text_offset m) r) (columns_kind m s at fit) text)
      go false e =
          let w = c.none e in
          let g = columns_wrong m (drop at s) (l.fits ∙ e) in
          record { right = w ∙ sym g; past = no_line _ r w; rest = no_line _ r w }

-- ## Marks byte by byte

pub own_mark : (s : List ℕ) (i : ℕ) → i + 2 < length s →
    mark_of false (drop i s) ≡ (eqb (get_or s i 0) PUNCT && eqb (get_or s (i + 2) 0) QUOTE)
own_mark s i h =
    ap (mark_of false) (two s i (omega arith))
    ∙ ap (λ (t : List ℕ). eqb (get_or s i 0) PUNCT && eqb (first t) QUOTE) (drop_next s (i + 2) h)

-- ## The names of a list

pub marked-short : (s : List ℕ) → length s ≤ 5 → marked s ≡ false
unfolding marked
marked-short s h = ap (λ (b : ℕ). eqb b (code "j")) (get_or-eq_default s 0 h)

pub first-row_by : (s : List ℕ) (m : Bool) → marked s ≡ m → length (names m) ≡ first_row s
unfolding first_row
first-row_by s m e = sym (ap (λ (x : Bool). length (names x)) e)

-- the line of names stands in the list
pub names-within : (s : List ℕ) → named s ≡ true → first_row s ≤ length s
unfolding first_row
names-within s e = same_fits s (names (marked s)) (length (names (marked s))) e

-- a list that begins with the one of the two lines of names that it can have
pub starts_named : (s : List ℕ) (m : Bool) → marked s ≡ m
    → pointwise eqb (names m) (take (length (names m)) s) ≡ named s
unfolding first_row
starts_named s m e =
    same_pointwise (names m) _ ∙ same_swap (names m) _
    ∙ ap (λ (x : Bool). same (take (length (names x)) s) (names x)) (sym e)
