-- A list that passes the check is its line of names and the lines of its rows, balanced.
use mathlib.Core.Path.{◌≡◌, refl, ap, ◌∙◌, sym}
use mathlib.Core.Bool.{Bool, true, false, cond, ◌&&◌, false≢true}
use mathlib.Core.List.{List, [], ◌∷◌, ◌++◌, append_assoc}
use Prim.Native.Nat.{ℕ, suc, ◌+◌}
use native.Mathlib.Omega.{arith}
use borrow.Author.Tests.{lt-ltb, eqb-true, eqb-false, leb-false}
use lib.Dec.{eqb, leb, ltb}
use lib.ListN.{length, drop}
use Rattle.token_list.specs.Byte.{SPACE}
use Rattle.token_list.specs.Text.{LF, name, literal, single, punctuation, opening, closing, closer}
use Rattle.token_list.specs.Layout.{marked, first_row, text_offset}
use Rattle.token_list.specs.Layout.{CLOSE, IDENT, LITERAL, MAX_BYTES, MAX_DEPTH, MAX_ROWS, MAX_TEXT, OPEN, PUNCT}
use Rattle.token_list.specs.Row.{Row, Lines, tail, line, lines, rows, written, Form, plain, opens}
use Rattle.token_list.specs.Row.{closed, wrong, form, form_of, text_form, first, columns_fit, mark_of, line_row_lem}
use Rattle.token_list.specs.Row.{mark_column_lem, right_mark}
use Rattle.token_list.specs.Check.{Answer, passed, refused, Open, close, step, walk, named, check, is_row, right}
use Rattle.token_list.specs.Check.{all_right, closed_by, enclosing, nested}
use Rattle.token_list.specs.Stream.{Trees, Streams, head, others, before, streams, size, follows, all_closed}
use Rattle.token_list.specs.Stream.{rows_at, at}
use Rattle.token_list.specs.Contract.{PassedList}
use Rattle.token_list.proofs.Texts.{chosen, passed_over, and_both, and_parts, same_path}
use Rattle.token_list.proofs.Streams.{before-close, before_open, before_leaf}
use Rattle.token_list.proofs.Lines.{joined, joined_lines}
use Rattle.token_list.proofs.Columns.{line-bytes, line_row, line_mark}

pub never : (p n m : ℕ) → refused p n ≡ passed m → ⊥
never p n m e = let z : ◌≡◌ {A = ℕ} 0 1 = cc in omega arith

-- ## The form of a row of a kind that opens, closes, or does neither

pub open_form : (k : ℕ) (t : List ℕ) → eqb k OPEN ≡ true →
    form_of k t ≡ cond (single opening t) (opens (first t)) wrong
unfolding form_of
open_form k t e = rw (eqb-true k OPEN e)

pub close-form : (k : ℕ) (t : List ℕ) → eqb k CLOSE ≡ true →
    form_of k t ≡ cond (single closing t) (closed (first t)) wrong
unfolding form_of
close-form k t e = rw (eqb-true k CLOSE e)

pub plain_form : (k : ℕ) (t : List ℕ) → eqb k OPEN ≡ false → eqb k CLOSE ≡ false → (b : Bool) ×
    (form_of k t ≡ cond b plain wrong)
unfolding form_of
plain_form k t o c = go (eqb k IDENT) (eqb k LITERAL) (eqb k PUNCT)
  where
    go : (x y z : Bool)
        → (b : Bool)
        × (cond x (cond (name t) plain wrong)
        (cond y (cond (literal t) plain wrong)
        (cond z (cond (single punctuation t) plain wrong)
        (cond (eqb k OPEN) (cond (single opening t) (opens (first t)) wrong)
        (cond (eqb k CLOSE) (cond (single closing t) (closed (first t)) wrong) wrong))))
        ≡ cond b plain wrong)
    go true y z = (name t, refl)
    go false true z = (literal t, refl)
    go false false true = (single punctuation t, refl)
    go false false false = (false, passed_over _ _ _ o ∙ passed_over _ _ _ c)

-- ## A right row

pub record RightRow (m : Bool) (r : Row) : Type 0 where
  pub formed : is_row (form_of r.kind r.text) ≡ true
  pub short : leb (length r.text) MAX_TEXT ≡ true
  pub mark : right_mark m r ≡ true

pub right-row : (m : Bool) (r : Row) → right m r ≡ true → RightRow m r
right-row m r e =
    let p = and_parts (is_row (form_of r.kind r.text)) _ e in
    let q = and_parts (leb (length r.text) MAX_TEXT) (right_mark m r) p.1 in
    record { formed = p.0; short = q.0; mark = q.1 }

-- ## What the walk has seen, where it passes the lines ls from row r on under the open groups gs

abbrev pub delimiters : List Open → List ℕ
delimiters [] = []
delimiters (g ∷ gs) = g.delimiter ∷ delimiters gs

pub delimiters_length : (gs : List Open) → length (delimiters gs) ≡ length gs
delimiters_length [] = refl
delimiters_length (g ∷ gs) = ap suc (delimiters_length gs)

record Seen (m : Bool) (ls : Lines) (r : ℕ) (gs : List Open) (n : ℕ) : Type 0 where
  written : joined ls ≡ written m (rows m ls)
  count : r + length (rows m ls) ≡ n
  nests : nested m (delimiters gs) (rows m ls) ≡ true

-- of a line whose columns fit, with its kind and its text
module _ (m : Bool) (ls : Lines)
    (ih : (r : ℕ) (gs : List Open) (n : ℕ) → walk m r gs ls ≡ passed n → Seen m ls r gs n) (r n : ℕ)
    (gs : List Open) (l : List ℕ) (fit : columns_fit m l ≡ true)
    (short : leb (length (drop (text_offset m) l)) 255 ≡ true) where
  abbrev k : ℕ
  k = first l

  abbrev t : List ℕ
  t = drop (text_offset m) l

  abbrev the_row : Row
  the_row = line_row_lem m l

  -- the row is right, and the rest was seen
  row_seen : is_row (form_of k t) ≡ true → (hs : List Open) → Seen m ls (r + 1) hs n
      → cond (eqb k OPEN) (ltb (length (delimiters gs)) MAX_DEPTH && nested m (first t ∷ delimiters gs) (rows m ls))
      (cond (eqb k CLOSE) (closed_by (delimiters gs) (first t) && nested m (enclosing (delimiters gs)) (rows m ls))
      (nested m (delimiters gs) (rows m ls)))
      ≡ true
      → Seen m (line l ls) r gs n
  row_seen f hs sn q =
      let row = line_row m l (rows m ls) fit in
      record {
        written =
            ap (λ (x : List ℕ). x ++ LF ∷ joined ls) (line-bytes m l fit)
            ∙ ap (λ (x : List ℕ). k ∷ SPACE ∷ x) (append_assoc (mark_column_lem m (mark_of m l)) t (LF ∷ joined ls))
            ∙ ap (λ (x : List ℕ). k ∷ SPACE ∷ mark_column_lem m (mark_of m l) ++ (t ++ LF ∷ x)) sn.written
            ∙ sym (ap (written m) row);
        count = omega (arith, sn.count, ap length row);
        nests = ap (nested m (delimiters gs)) row ∙ and_both _ _ (and_both _ _ f (and_both _ _ short
            (line_mark m l fit)))
            q;
      }

  abbrev go : List Open → Answer
  go hs = walk m (r + 1) hs ls

  open_seen : eqb k OPEN ≡ true → step r gs (form_of k t) go ≡ passed n → Seen m (line l ls) r gs n
  open_seen o e = pick (single opening t) refl
    where
      pick : (b : Bool) → single opening t ≡ b → Seen m (line l ls) r gs n
      pick false q =
          absurd (never _ _ _ (sym (ap (λ (f : Form). step r gs f go) (open_form k t o ∙ passed_over _ _ _ q)) ∙ e))
      pick true q = deep (leb MAX_DEPTH (length gs)) refl
        where
          f : form_of k t ≡ opens (first t)
          f = open_form k t o ∙ chosen _ _ _ q

          deep : (b : Bool) → leb MAX_DEPTH (length gs) ≡ b → Seen m (line l ls) r gs n
          deep true d = absurd (never _ _ _ (sym (ap (λ (g : Form). step r gs g go) f ∙ chosen _ _ _ d) ∙ e))
          deep false d =
              let sn = ih (r + 1) (record { delimiter = first t; row = r } ∷ gs) n
              (sym (ap (λ (g : Form). step r gs g go) f ∙ passed_over _ _ _ d) ∙ e) in
              row_seen (ap is_row f) _ sn
              (chosen _ _ _ o ∙ and_both _ _
              (lt-ltb (length (delimiters gs)) MAX_DEPTH
              (omega (arith, leb-false MAX_DEPTH (length gs) d, delimiters_length gs)))
              sn.nests)

  plain_seen : eqb k OPEN ≡ false → eqb k CLOSE ≡ false → step r gs (form_of k t) go ≡ passed n →
      Seen m (line l ls) r gs n
  plain_seen o c e = pick (plain_form k t o c)
    where
      pick : (b : Bool) × (form_of k t ≡ cond b plain wrong) → Seen m (line l ls) r gs n
      pick p = choose p.0 p.1
        where
          choose : (b : Bool) → form_of k t ≡ cond b plain wrong → Seen m (line l ls) r gs n
          choose false q = absurd (never _ _ _ (sym (ap (λ (f : Form). step r gs f go) q) ∙ e))
          choose true q =
              let sn = ih (r + 1) gs n (sym (ap (λ (f : Form). step r gs f go) q) ∙ e) in
              row_seen (ap is_row q) gs sn (passed_over _ _ _ o ∙ passed_over _ _ _ c ∙ sn.nests)

  -- the closing row, by the groups that are open
  close_seen : eqb k OPEN ≡ false → eqb k CLOSE ≡ true → step r gs (form_of k t) go ≡ passed n →
      Seen m (line l ls) r gs n
  close_seen o c e = pick (single closing t) refl
    where
      pick : (b : Bool) → single closing t ≡ b → Seen m (line l ls) r gs n
      pick false q =
          absurd (never _ _ _ (sym (ap (λ (f : Form). step r gs f go) (close-form k t c ∙ passed_over _ _ _ q)) ∙ e))
      pick true q = under gs refl (sym (ap (λ (f : Form). step r gs f go) f) ∙ e)
        where
          f : form_of k t ≡ closed (first t)
          f = close-form k t c ∙ chosen _ _ _ q

          under : (hs : List Open) → gs ≡ hs → close r (first t) gs go ≡ passed n → Seen m (line l ls) r gs n
          under [] g x = absurd (never _ _ _ (sym (ap (λ (hs : List Open). close r (first t) hs go) g) ∙ x))
          under (h ∷ hs) g x = match (eqb (closer h.delimiter) (first t)) refl
              (sym (ap (λ (hs : List Open). close r (first t) hs go) g) ∙ x)
            where
              match : (b : Bool) → eqb (closer h.delimiter) (first t) ≡ b
                  → cond (eqb (closer h.delimiter) (first t)) (go hs) (refused 5 r) ≡ passed n
                  → Seen m (line l ls) r gs n
              match false b y = absurd (never _ _ _ (sym (passed_over _ _ _ b) ∙ y))
              match true b y =
                  let sn = ih (r + 1) hs n (sym (chosen _ _ _ b) ∙ y) in
                  row_seen (ap is_row f) hs sn
                  (passed_over _ _ _ o ∙ chosen _ _ _ c
                  ∙ ap (λ (gs : List Open). closed_by (delimiters gs) (first t) && nested m (enclosing (delimiters gs))
                  (rows m ls)) g
                  ∙ and_both _ _ b sn.nests)

line_seen : (m : Bool) (ls : Lines)
    (ih : (r : ℕ) (gs : List Open) (n : ℕ) → walk m r gs ls ≡ passed n → Seen m ls r gs n) (l : List ℕ)
    (r n : ℕ) (gs : List Open)
    → step r gs (form m l) (λ hs. walk m (r + 1) hs ls) ≡ passed n → Seen m (line l ls) r gs n
line_seen m ls ih l r n gs e = pick (columns_fit m l) refl e
  where
    by : Form → Answer
    by f = step r gs f (λ hs. walk m (r + 1) hs ls)

    k : ℕ
    k = first l

    t : List ℕ
    t = drop (text_offset m) l

    pick : (b : Bool) → columns_fit m l ≡ b → by (cond b (text_form k t) wrong) ≡ passed n → Seen m (line l ls) r gs n
    pick false q e = absurd (never _ _ _ e)
    pick true fit e = length? (leb (length t) 255) refl e
      where
        length? : (b : Bool) → leb (length t) 255 ≡ b → by (cond b (form_of k t) wrong) ≡ passed n →
            Seen m (line l ls) r gs n
        length? false q e = absurd (never _ _ _ e)
        length? true short e = kind (eqb k OPEN) (eqb k CLOSE) refl refl
          where
            kind : (o c : Bool) → eqb k OPEN ≡ o → eqb k CLOSE ≡ c → Seen m (line l ls) r gs n
            kind true c a b = open_seen m ls ih r n gs l fit short a e
            kind false true a b = close_seen m ls ih r n gs l fit short a b e
            kind false false a b = plain_seen m ls ih r n gs l fit short a b e

seen : (m : Bool) (ls : Lines) (r : ℕ) (gs : List Open) (n : ℕ) → walk m r gs ls ≡ passed n → Seen m ls r gs n
seen m (tail []) r [] n e = let same : r ≡ n = cc in record { written = refl; count = omega arith; nests = refl }
seen m (tail []) r (g ∷ gs) n e = absurd (never _ _ _ e)
seen m (tail (b ∷ bs)) r gs n e = absurd (go (leb MAX_ROWS r) e)
  where
    go : (t : Bool) → cond t (refused 4 MAX_ROWS) (refused 3 r) ≡ passed n → ⊥
    go true e = never _ _ _ e
    go false e = never _ _ _ e
seen m (line l ls) r gs n e = go (seen m ls) (leb MAX_ROWS r) e
  where
    go : ((r : ℕ) (gs : List Open) (n : ℕ) → walk m r gs ls ≡ passed n → Seen m ls r gs n) → (t : Bool)
        → cond t (refused 4 MAX_ROWS) (step r gs (form m l) (λ hs. walk m (r + 1) hs ls)) ≡ passed n
        → Seen m (line l ls) r gs n
    go ih true e = absurd (never _ _ _ e)
    go ih false e = line_seen m ls ih l r n gs e

-- ## The streams of rows that nest

module _ (m : Bool) (r : Row) (rs : List Row) (ds : List ℕ) where
  nest_rest : nested m ds (r ∷ rs) ≡ true
      → cond (eqb r.kind OPEN) (ltb (length ds) MAX_DEPTH && nested m (first r.text ∷ ds) rs)
      (cond (eqb r.kind CLOSE) (closed_by ds (first r.text) && nested m (enclosing ds) rs) (nested m ds rs))
      ≡ true
  nest_rest e = (and_parts (right m r) _ e).1

enclosed : (ds : List ℕ) (c : ℕ) → closed_by ds c ≡ true → length ds ≡ suc (length (enclosing ds))
enclosed [] c e = absurd (false≢true e)
enclosed (d ∷ ds) c e = refl

follows_of : (ts : List Trees) (n : ℕ) → length ts ≡ suc n → follows ts ≡ true
follows_of [] n e = absurd (omega arith)
follows_of (t ∷ ts) n e = refl

others_length : (ts : List Trees) (n : ℕ) → length ts ≡ suc n → length (others ts) ≡ n
others_length [] n e = absurd (omega arith)
others_length (t ∷ ts) n e = omega arith

pub record Balanced (m : Bool) (rs : List Row) (ds : List ℕ) : Type 0 where
  pub outer : length (streams rs).outer ≡ length ds
  pub closed : all_closed rs ≡ true
  pub right : all_right m rs ≡ true

balanced_row : (m : Bool) (r : Row) (rs : List Row) (ds : List ℕ) → ((es : List ℕ) → nested m es rs ≡ true
    → Balanced m rs es) →
    nested m ds (r ∷ rs) ≡ true → Balanced m (r ∷ rs) ds
balanced_row m r rs ds ih e = kind (eqb r.kind OPEN) (eqb r.kind CLOSE) refl refl
  where
    forms : {es : List ℕ} → Balanced m rs es → all_right m (r ∷ rs) ≡ true
    forms bl = and_both _ _ (and_parts (right m r) _ e).0 bl.right

    kind : (o c : Bool) → eqb r.kind OPEN ≡ o → eqb r.kind CLOSE ≡ c → Balanced m (r ∷ rs) ds
    kind true c a b =
        let bl = ih (first r.text ∷ ds) (and_parts (ltb (length ds) MAX_DEPTH) _
        (sym (chosen _ _ _ a) ∙ nest_rest m r rs ds e)).1 in
        record {
          outer = ap (λ (st : Streams). length st.outer) (before_open r (streams rs) (eqb-true _ _ a)) ∙
              others_length (streams rs).outer (length ds) bl.outer;
          closed = and_both _ _ bl.closed
              (chosen _ (follows (streams rs).outer) true a ∙ follows_of (streams rs).outer (length ds) bl.outer);
          right = forms bl;
        }
    kind false true a b =
        let p = and_parts (closed_by ds (first r.text)) _
        (sym (passed_over _ _ _ a ∙ chosen _ _ _ b) ∙ nest_rest m r rs ds e) in
        let bl = ih (enclosing ds) p.1 in
        record {
          outer = ap (λ (st : Streams). length st.outer) (before-close r (streams rs) (eqb-true _ _ b)) ∙
              ap suc bl.outer ∙ sym (enclosed ds (first r.text) p.0);
          closed = and_both _ _ bl.closed (passed_over _ (follows (streams rs).outer) true a);
          right = forms bl;
        }
    kind false false a b =
        let bl = ih ds (sym (passed_over _ _ _ a ∙ passed_over _ _ _ b) ∙ nest_rest m r rs ds e) in
        record {
          outer = ap (λ (st : Streams). length st.outer)
              (before_leaf r (streams rs) (eqb-false _ _ a) (eqb-false _ _ b)) ∙ bl.outer;
          closed = and_both _ _ bl.closed (passed_over _ (follows (streams rs).outer) true a);
          right = forms bl;
        }

pub balanced : (m : Bool) (rs : List Row) (ds : List ℕ) → nested m ds rs ≡ true → Balanced m rs ds
balanced m [] [] e = record { outer = refl; closed = refl; right = refl }
balanced m [] (d ∷ ds) e = absurd (false≢true e)
balanced m (r ∷ rs) ds e = balanced_row m r rs ds (balanced m rs) e

-- rows of the streams around, each with the closing row before it
around : List Trees → ℕ
around [] = 0
around (t ∷ ts) = 1 + size t + around ts

around_parts : (ts : List Trees) → follows ts ≡ true → around ts ≡ 1 + size (head ts) + around (others ts)
unfolding around
around_parts [] e = absurd (false≢true e)
around_parts (t ∷ ts) e = refl

counted-row : (r : Row) (rs : List Row) → all_closed (r ∷ rs) ≡ true →
    size (streams rs).here + around (streams rs).outer ≡ length rs
    → size (streams (r ∷ rs)).here + around (streams (r ∷ rs)).outer ≡ length (r ∷ rs)
unfolding around
counted-row r rs w ih = kind (eqb r.kind OPEN) (eqb r.kind CLOSE) refl refl
  where
    total : Streams → ℕ
    total st = size st.here + around st.outer

    kind : (o c : Bool) → eqb r.kind OPEN ≡ o → eqb r.kind CLOSE ≡ c →
        total (before r (streams rs)) ≡ length (r ∷ rs)
    kind true c a b =
        let f = around_parts (streams rs).outer (sym (chosen _ _ _ a) ∙ (and_parts (all_closed rs) _ w).1) in
        ap total (before_open r (streams rs) (eqb-true _ _ a)) ∙ omega (arith, ih, f)
    kind false true a b = ap total (before-close r (streams rs) (eqb-true _ _ b)) ∙ omega (arith, ih)
    kind false false a b = ap total (before_leaf r (streams rs) (eqb-false _ _ a) (eqb-false _ _ b)) ∙ omega (arith, ih)

counted : (rs : List Row) → all_closed rs ≡ true → size (streams rs).here + around (streams rs).outer ≡ length rs
unfolding around
counted [] w = refl
counted (r ∷ rs) w = counted-row r rs w (counted rs (and_parts (all_closed rs) _ w).0)

-- ## The law

no_outer : (ts : List Trees) → length ts ≡ 0 → ts ≡ []
no_outer [] e = refl
no_outer (t ∷ ts) e = absurd (omega arith)

pub passed_list : (s : List ℕ) (n : ℕ) → check s ≡ passed n → PassedList s n
unfolding check at around
passed_list s n e = long (ltb MAX_BYTES (length s)) e
  where
    m : Bool
    m = marked s

    at₀ : ℕ
    at₀ = first_row s

    rest : named s ≡ true → walk m 0 [] (lines (drop at₀ s)) ≡ passed n → PassedList s n
    rest q w =
        let sn = seen m (lines (drop at₀ s)) 0 [] n w in
        let bl = balanced m (rows_at s at₀) [] sn.nests in
        let o = no_outer (at s at₀).outer bl.outer in
        let c : length (rows_at s at₀) ≡ n = omega (arith, sn.count) in
        let bytes : drop at₀ s ≡ written m (rows_at s at₀) = sym (joined_lines (drop at₀ s)) ∙ sn.written in
        record {
          names = same_path _ _ q;
          written = bytes;
          nested = sn.nests;
          count = c;
          right_rows = record { written = bytes; right = bl.right; closed = bl.closed };
          outer = o;
          size = omega (arith, counted (rows_at s at₀) bl.closed, ap around o);
        }

    long : (b : Bool) → cond b (refused 1 65535) (cond (named s) (walk m 0 [] (lines (drop at₀ s)))
        (refused 2 65535)) ≡ passed n → PassedList s n
    long true e = absurd (never _ _ _ e)
    long false e = names (named s) refl e
      where
        names : (b : Bool) → named s ≡ b → cond b (walk m 0 [] (lines (drop at₀ s))) (refused 2 65535) ≡ passed n →
            PassedList s n
        names true q w = rest q w
        names false q w = absurd (never _ _ _ w)
