-- Laws that link offsets to streams: the row at an offset, one step, and the way past a group.
use mathlib.Core.Path.{◌≡◌, refl, ap, ◌∙◌, sym, subst}
use mathlib.Core.Bool.{Bool, true, false, cond, ◌&&◌, false≢true}
use mathlib.Core.List.{List, [], ◌∷◌}
use Prim.Native.Nat.{ℕ, zero, suc, ◌+◌, ◌-◌, ◌≤◌, ◌<◌}
use native.Mathlib.Omega.{arith}
use borrow.Author.Tests.{eq-eqb, ne_eqb, eqb-true, eqb-false, leb-true, leb-false}
use lib.Dec.{leb, eqb}
use lib.ListN.{length, get_or, drop}
use lib.Seq.{slice, drop-nil}
use Rattle.token_list.specs.Layout.{marked, text_offset, CLOSE, OPEN, PUNCT}
use Rattle.token_list.specs.Row.{Row, first, mark_fits, mark_of}
use Rattle.token_list.specs.Stream.{Trees, end, leaf, group, Streams, head, others, before, streams, size}
use Rattle.token_list.specs.Stream.{first_kind_lem, first_byte_lem, starts_punct, follows, all_closed, rows_at, at}
use Rattle.token_list.specs.Stream.{row_start}
use Rattle.token_list.specs.Contract.{RowEnd, RightRows, InList, Looked, TokenAt, LeafAt, GroupAt, Skipped}
use Rattle.token_list.specs.Contract.{skipped, deeper, row_of}
use Rattle.token_list.specs.declared.check.Cursor.{Cursor}
use Rattle.token_list.specs.declared.stream.Token.{Token}
use Rattle.token_list.proofs.Texts.{and_parts, and_last, chosen, passed_over}
use Rattle.token_list.proofs.Starts.{next_start}
use Rattle.token_list.proofs.Rows.{rows_none, FirstRow, first-row, first_kind, first_at, some_kind}
use Rattle.token_list.proofs.Rows.{text-within, plain_at, row_at, row_at_lem, last_byte, right-rows_next, punct_end}

-- ## The row at an offset

pub at_none : (s : List ℕ) (i : ℕ) → rows_at s i ≡ [] → at s i ≡ record { here = end; outer = [] }
unfolding at
at_none s i e = ap streams e

pub at_row : (s : List ℕ) (i n : ℕ) (r : Row) → rows_at s i ≡ r ∷ rows_at s n → at s i ≡ before r (at s n)
unfolding at
at_row s i n r e = ap streams e

-- ## One row before streams

module _ (r : Row) (st : Streams) where
  pub before-close : r.kind ≡ CLOSE → before r st ≡ record { here = end; outer = st.here ∷ st.outer }
  unfolding before
  before-close e = rw e

  pub before_open : r.kind ≡ OPEN → before r st ≡ record {
    here = group (first r.text) st.here (head st.outer);
    outer = others st.outer;
  }
  unfolding before
  before_open e = chosen _ _ _ (eq-eqb _ _ e)

  pub before_leaf : (r.kind ≡ OPEN → ⊥) → (r.kind ≡ CLOSE → ⊥) → before r st ≡ record {
    here = leaf r st.here;
    outer = st.outer;
  }
  unfolding before
  before_leaf o c = passed_over _ _ _ (ne_eqb _ _ o) ∙ passed_over _ _ _ (ne_eqb _ _ c)

-- ## Groups that are closed

pub closed_open : (r : Row) (rs : List Row) → all_closed (r ∷ rs) ≡ true → r.kind ≡ OPEN →
    follows (streams rs).outer ≡ true
closed_open r rs w e = sym (chosen _ _ _ (eq-eqb _ _ e)) ∙ (and_parts (all_closed rs) _ w).1

pub followed : (ts : List Trees) → follows ts ≡ true → ts ≡ head ts ∷ others ts
followed [] e = absurd (false≢true e)
followed (t ∷ ts) e = refl

-- ## What stands at a cursor

module _ (s : List ℕ) (c : Cursor) (in_list : InList s c) where
  pub none_here : length s ≤ c.at → (at s c.at).here ≡ end
  none_here h = ap (λ (t : Streams). t.here) (at_none s c.at (rows_none s c.at h))

  pub close_here : c.at < length s → get_or s c.at 0 ≡ CLOSE → (at s c.at).here ≡ end
  unfolding at
  close_here h q =
      let f = first-row s c.at in_list.right_rows h in
      ap (λ (t : Streams). t.here) (ap streams f.here ∙
      before-close _ (streams f.rest) (first_kind s c.at f ∙ q))

  pub look_none : (at s c.at).here ≡ end → Looked s c.at (record { kind = 0; first = 0 })
  look_none e = record { kind = sym (ap first_kind_lem e); first = sym (ap first_byte_lem e); none = λ q. e }

  pub look_here : c.at < length s → (get_or s c.at 0 ≡ CLOSE → ⊥) →
      Looked s c.at (record { kind = get_or s c.at 0; first = get_or s (c.at + text_offset (marked s)) 0 })
  unfolding at
  look_here h x = go (eqb f.row.kind OPEN) refl
    where
      f : FirstRow s c.at
      f = first-row s c.at in_list.right_rows h

      k : f.row.kind ≡ get_or s c.at 0
      k = first_kind s c.at f

      m : first f.row.text ≡ get_or s (c.at + text_offset (marked s)) 0
      m = ap first f.texts ∙ first_at s c.at f

      go : (b : Bool) → eqb f.row.kind OPEN ≡ b → Looked s c.at
          (record { kind = get_or s c.at 0; first = get_or s (c.at + text_offset (marked s)) 0 })
      go true e =
          let b = ap (λ (t : Streams). t.here) (ap streams f.here ∙
          before_open f.row (streams f.rest) (eqb-true _ _ e)) in
          record {
            kind = sym k ∙ eqb-true _ _ e ∙ sym (ap first_kind_lem b);
            first = sym m ∙ sym (ap first_byte_lem b);
            none = λ q. absurd (some_kind s c.at f (k ∙ q));
          }
      go false e =
          let b = ap (λ (t : Streams). t.here) (ap streams f.here ∙
          before_leaf f.row (streams f.rest) (eqb-false _ _ e) (λ q. x (sym k ∙ q))) in
          record {
            kind = sym k ∙ sym (ap first_kind_lem b);
            first = sym m ∙ sym (ap first_byte_lem b);
            none = λ q. absurd (some_kind s c.at f (k ∙ q));
          }

-- the token of the row from i to e
abbrev pub token_from : List ℕ → ℕ → ℕ → Token
token_from s i e =
    record {
      kind = get_or s i 0;
      joint = mark_of (marked s) (drop i s);
      byte = get_or s (e - 1) 0;
      start = i + text_offset (marked s);
      end = e;
      next = e + 1;
    }

pub token_at : (s : List ℕ) (i e : ℕ) → RightRows s i → RowEnd s i e → TokenAt s i (token_from s i e)
token_at s i e w l =
    record {
      kind = refl;
      joint = refl;
      start = refl;
      end = l;
      text = omega (arith, l.text);
      next = refl;
      within = omega (arith, l.within);
      byte = λ q. last_byte s i e w l (λ n. absurd (omega (arith, q, n))) (λ n. absurd (omega (arith, q, n)));
      delimiter = λ q. last_byte s i e w l (λ n. absurd (omega (arith, q, n))) (λ n. absurd (omega (arith, q, n)));
      right_rows = right-rows_next s i e l w;
    }

-- the same of a token by its parts, with n bytes before its text
pub token_of : (s : List ℕ) (i e : ℕ) (t : Token) → RightRows s i → RowEnd s i e → (n : ℕ) →
    n ≡ text_offset (marked s) → t.joint ≡ mark_of (marked s) (drop i s) → t.kind ≡ get_or s i 0 →
    t.byte ≡ get_or s (e - 1) 0 → t.start ≡ i + n → t.end ≡ e → t.next ≡ e + 1 → TokenAt s i t
token_of s i e t w l n off joint kind byte start last next =
    subst (TokenAt s i)
    (λ x. record {
      kind = sym kind x;
      joint = sym joint x;
      byte = sym byte x;
      start = sym (start ∙ ap (λ (k : ℕ). i + k) off) x;
      end = sym last x;
      next = sym next x;
    })
    (token_at s i e w l)

-- the byte of a token counts where it is punctuation
pub byte_of : {A : Type 0} (s : List ℕ) (i : ℕ) (t : Token) → TokenAt s i t → (f : Bool → ℕ → A) →
    ((x y : ℕ) → f false x ≡ f false y) →
    f (eqb t.kind PUNCT) (first (slice t.start t.end s)) ≡ f (eqb t.kind PUNCT) t.byte
byte_of s i t k f same = go (eqb t.kind PUNCT) refl
  where
    go : (p : Bool) → eqb t.kind PUNCT ≡ p → f p (first (slice t.start t.end s)) ≡ f p t.byte
    go true e = ap (f true) (sym (k.byte (eqb-true _ _ e)))
    go false e = same _ _

-- what a token is in the streams
module _ (s : List ℕ) (i : ℕ) (w : RightRows s i) (t : Token) (k : TokenAt s i t) where
  pub the_row : rows_at s i ≡ row_of s t ∷ rows_at s t.next
  the_row =
      row_at_lem s i t.end k.end
      ∙ (λ x. record {
        kind = sym k.kind x;
        joint = sym k.joint x;
        text = slice (sym k.start x) t.end s;
      } ∷ rows_at s (sym k.next x))

  row_closed : all_closed (row_of s t ∷ rows_at s t.next) ≡ true
  row_closed = sym (ap all_closed the_row) ∙ w.closed

  stepped : at s i ≡ before (row_of s t) (at s t.next)
  stepped = at_row s i t.next (row_of s t) the_row

  pub leaf_here : (t.kind ≡ OPEN → ⊥) → (t.kind ≡ CLOSE → ⊥) → LeafAt s i t
  leaf_here o q =
      let b = stepped ∙ before_leaf (row_of s t) (at s t.next) o q in
      record { token = k; here = ap (λ (t : Streams). t.here) b; outer = ap (λ (t : Streams). t.outer) b }

  pub group_here : t.kind ≡ OPEN → GroupAt s i t
  unfolding at
  group_here o =
      let b = stepped ∙ before_open (row_of s t) (at s t.next) o in
      let ts = (at s t.next).outer in
      record {
        token = k;
        after = head ts;
        here = ap (λ (t : Streams). t.here) b ∙
            ap (λ (d : ℕ). group d (at s t.next).here (head ts)) (sym (k.delimiter o));
        outer = followed ts (closed_open (row_of s t) (rows_at s t.next) row_closed o) ∙
            ap (λ (us : List Trees). head ts ∷ us) (sym (ap (λ (t : Streams). t.outer) b));
      }

-- ## A punctuation at a cursor

module _ (s : List ℕ) (c : Cursor) (in_list : InList s c) (b : ℕ) where
  abbrev starting : Bool
  starting = starts_punct b (at s c.at).here

  pub punct-none : length s ≤ c.at → starting ≡ false
  punct-none h = ap (starts_punct b) (none_here s c in_list h)

  -- it is told by two bytes
  pub punct_look : c.at < length s →
      starting ≡ (eqb (get_or s c.at 0) PUNCT && eqb (get_or s (c.at + text_offset (marked s)) 0) b)
  punct_look h = go (eqb (get_or s c.at 0) CLOSE) refl
    where
      go : (x : Bool) → eqb (get_or s c.at 0) CLOSE ≡ x
          → starting ≡ (eqb (get_or s c.at 0) PUNCT && eqb (get_or s (c.at + text_offset (marked s)) 0) b)
      go true e =
          let q = eqb-true _ _ e in
          ap (starts_punct b) (close_here s c in_list h q) ∙
          sym (ap (λ (k : ℕ). eqb k PUNCT && eqb (get_or s (c.at + text_offset (marked s)) 0) b) q)
      go false e =
          let l = look_here s c in_list h (eqb-false _ _ e) in
          rw (sym l.kind, sym l.first)

  pub punct_by : c.at < length s → get_or s c.at 0 ≡ PUNCT → (m : Bool) → marked s ≡ m →
      starting ≡ eqb (get_or s (c.at + text_offset m) 0) b
  punct_by h k m e =
      punct_look h ∙ and_last _ _ (eq-eqb _ _ k) ∙ ap (λ (m : Bool). eqb (get_or s (c.at + text_offset m) 0) b) e

  -- a byte that is no mark is found where it stands without marks
  pub no_marks : c.at < length s → mark_fits PUNCT b ≡ false → get_or s (c.at + 2) 0 ≡ b → marked s ≡ false
  no_marks h = plain_at s c.at (first-row s c.at in_list.right_rows h) b

  -- where it stands
  module _ (n : mark_fits PUNCT b ≡ false) (p : starting ≡ true) where
    pub punct-within : c.at < length s
    punct-within = go (leb (length s) c.at) refl
      where
        go : (x : Bool) → leb (length s) c.at ≡ x → c.at < length s
        go true e = absurd (false≢true (sym (punct-none (leb-true (length s) c.at e)) ∙ p))
        go false e = omega (arith, leb-false (length s) c.at e)

    told : (eqb (get_or s c.at 0) PUNCT ≡ true) × (eqb (get_or s (c.at + text_offset (marked s)) 0) b ≡ true)
    told = and_parts _ _ (sym (punct_look punct-within) ∙ p)

    punct_kind : get_or s c.at 0 ≡ PUNCT
    punct_kind = eqb-true _ _ told.0

    punct-byte : get_or s (c.at + text_offset (marked s)) 0 ≡ b
    punct-byte = eqb-true _ _ told.1

    pub punct-text : c.at + text_offset (marked s) + 2 ≤ length s
    punct-text = text-within s c.at (first-row s c.at in_list.right_rows punct-within)

    -- how far its text is
    pub plain_offset : get_or s (c.at + 2) 0 ≡ b → 2 ≡ text_offset (marked s)
    plain_offset e = sym (ap text_offset (no_marks punct-within n e))

    pub marked_offset : (get_or s (c.at + 2) 0 ≡ b → ⊥) → 4 ≡ text_offset (marked s)
    marked_offset e = go (marked s) refl
      where
        go : (m : Bool) → marked s ≡ m → 4 ≡ text_offset (marked s)
        go true q = sym (ap text_offset q)
        go false q = absurd (e (sym (ap (λ (m : Bool). get_or s (c.at + text_offset m) 0) q) ∙ punct-byte))

    -- its text is one byte
    pub punct_here : (t : Token) → t.joint ≡ mark_of (marked s) (drop c.at s) → t.kind ≡ PUNCT → t.byte ≡ b →
        t.start ≡ c.at + text_offset (marked s) → t.end ≡ t.start + 1 → t.next ≡ t.end + 1 → LeafAt s c.at t
    punct_here t joint kind byte start last next =
        let w = in_list.right_rows in
        let off = text_offset (marked s) in
        let e : t.end ≡ c.at + off + 1 = omega (arith, start, last) in
        let to : c.at + off ≡ c.at + off + 1 - 1 = omega arith in
        leaf_here s c.at w t
        (token_of s c.at (c.at + off + 1) t w (punct_end s c.at w punct-within punct_kind) off refl joint
        (kind ∙ sym punct_kind) (byte ∙ sym punct-byte ∙ ap (λ (j : ℕ). get_or s j 0) to) start e
        (next ∙ ap (λ (k : ℕ). k + 1) e))
        (λ q. absurd (omega (arith, kind, q))) (λ q. absurd (omega (arith, kind, q)))

-- ## The way past a group

abbrev stack : Streams → List Trees
stack t = t.here ∷ t.outer

-- the rows up to the end of the n innermost streams, with their closing rows
abbrev pub pending : ℕ → List Trees → ℕ
pending zero ts = 0
pending (suc n) [] = 0
pending (suc n) (t ∷ ts) = size t + 1 + pending n ts

-- on the way from c past the end of its group: at i, in row, `depth` groups deep
pub record Inside (s : List ℕ) (c : Cursor) (i row depth : ℕ) : Type 0 where
  pub starts : i ≡ row_start s row
  pub counted : row ≤ i
  pub deep : depth ≤ i + 1
  pub within : i ≤ length s
  pub forth : c.at + row ≤ i + c.row
  pub right_rows : RightRows s i
  pub left : drop depth (stack (at s i)) ≡ (at s c.at).outer
  pub rows : row + pending depth (stack (at s i)) ≡ c.row + size (at s c.at).here + 1

pub inside-start : (s : List ℕ) (c : Cursor) → InList s c → Inside s c c.at c.row 1
inside-start s c i =
    record {
      starts = i.starts;
      counted = i.counted;
      deep = omega arith;
      within = i.within;
      forth = omega arith;
      right_rows = i.right_rows;
      left = refl;
      rows = omega arith;
    }

module _ (s : List ℕ) (c : Cursor) (i row : ℕ) where
  module _ (k e : ℕ) (n : Inside s c i row (suc k)) (l : RowEnd s i e) where
    abbrev the_step : Row
    the_step = row_at s i e

    row_here : rows_at s i ≡ the_step ∷ rows_at s (e + 1)
    row_here = row_at_lem s i e l

    step_closed : all_closed (the_step ∷ rows_at s (e + 1)) ≡ true
    step_closed = sym (ap all_closed row_here) ∙ n.right_rows.closed

    -- the step to a new depth, from the two facts that speak of streams
    stepped_to : (d : ℕ) → d ≤ suc k + 1 → k ≤ d → drop d (stack (at s (e + 1))) ≡ (at s c.at).outer
        → pending d (stack (at s (e + 1))) + 1 ≡ pending (suc k) (stack (at s i)) → Inside s c (e + 1) (row + 1) d
    stepped_to d a b left rows =
        let p = l.within in
        let q = l.long in
        record {
          starts = next_start s row i e n.starts l;
          counted = omega (arith, n.counted, q);
          deep = omega (arith, n.deep, q);
          within = omega (arith, p);
          forth = omega (arith, n.forth, q);
          right_rows = right-rows_next s i e l n.right_rows;
          left = left;
          rows = omega (arith, n.rows, rows);
        }

    abbrev T : Streams
    T = at s (e + 1)

    b : at s i ≡ before the_step T
    b = at_row s i (e + 1) the_step row_here

    step_open : get_or s i 0 ≡ OPEN → Inside s c (e + 1) (row + 1) (suc k + 1)
    unfolding at
    step_open o =
        let w = followed T.outer (closed_open the_step (rows_at s (e + 1)) step_closed o) in
        let g = b ∙ before_open the_step T o in
        let p : pending (suc (suc k)) (stack T) ≡ size
        T.here + 1 + (size (head T.outer) + 1 + pending k (others T.outer)) =
        ap (λ (ts : List Trees). size T.here + 1 + pending (suc k) ts) w in
        let q : pending (suc k) (stack (at s i)) ≡ 1 + size T.here + 1 + size (head T.outer) + 1 + pending k
        (others T.outer) =
        ap (λ (t : Streams). pending (suc k) (stack t)) g in
        let up : suc k + 1 ≡ suc (suc k) = omega arith in
        stepped_to (suc k + 1) (omega arith) (omega arith)
        (rw up (ap (drop (suc k)) w ∙ sym (ap (λ (t : Streams). drop (suc k) (stack t)) g) ∙ n.left))
        (rw up (omega (arith, p, q)))

    step-close : get_or s i 0 ≡ CLOSE → Inside s c (e + 1) (row + 1) (suc k - 1)
    step-close o =
        let g = b ∙ before-close the_step T o in
        let down : suc k - 1 ≡ k = omega arith in
        let q : pending (suc k) (stack (at s i)) ≡ 0 + 1 + pending k (stack T) =
        ap (λ (t : Streams). pending (suc k) (stack t)) g in
        stepped_to (suc k - 1) (omega arith) (omega arith)
        (rw down (sym (ap (λ (t : Streams). drop (suc k) (stack t)) g) ∙ n.left))
        (rw down (omega (arith, q)))

    step_leaf : (get_or s i 0 ≡ OPEN → ⊥) → (get_or s i 0 ≡ CLOSE → ⊥) → Inside s c (e + 1) (row + 1) (suc k)
    step_leaf o x =
        let g = b ∙ before_leaf the_step T o x in
        let q : pending (suc k) (stack (at s i)) ≡ 1 + size T.here + 1 + pending k T.outer =
        ap (λ (t : Streams). pending (suc k) (stack t)) g in
        stepped_to (suc k) (omega arith) (omega arith)
        (sym (ap (λ (t : Streams). drop (suc k) (stack t)) g) ∙ n.left)
        (omega (arith, q))

    step-any : (o x : Bool) → eqb (get_or s i 0) OPEN ≡ o → eqb (get_or s i 0) CLOSE ≡ x
        → Inside s c (e + 1) (row + 1) (cond o (suc k + 1) (cond x (suc k - 1) (suc k)))
    step-any true x p q = step_open (eqb-true _ _ p)
    step-any false true p q = step-close (eqb-true _ _ q)
    step-any false false p q = step_leaf (eqb-false _ _ p) (eqb-false _ _ q)

  pub inside-step : (depth e : ℕ) → 0 < depth → Inside s c i row depth → RowEnd s i e →
      Inside s c (e + 1) (row + 1) (deeper (get_or s i 0) depth)
  inside-step zero e h n l = absurd (omega arith)
  inside-step (suc k) e h n l = step-any k e n l (eqb (get_or s i 0) OPEN) (eqb (get_or s i 0) CLOSE) refl refl

  abbrev there : Cursor
  there = record { at = i; row = row }

  there_in : {depth : ℕ} → Inside s c i row depth → InList s there
  there_in n = record { starts = n.starts; counted = n.counted; within = n.within; right_rows = n.right_rows }

  pub inside_done : (depth : ℕ) → depth ≤ 0 → Inside s c i row depth → skipped (at s c.at).outer s c there
  inside_done zero h n =
      subst (λ (ts : List Trees). skipped ts s c there) n.left
      (record {
        in_list = there_in n;
        forth = omega (arith, n.forth, n.rows);
        row = omega (
          arith,
          n.rows,
        );
        streams = sym n.left;
      })
  inside_done (suc k) h n = absurd (omega arith)

  -- the rows end before the group is closed, so it is none
  pub inside-none : (depth : ℕ) → 0 < depth → length s ≤ i → Inside s c i row depth →
      skipped (at s c.at).outer s c there
  inside-none zero h g n = absurd (omega arith)
  inside-none (suc k) h g n =
      let e = at_none s i (rows_none s i g) in
      let left : [] ≡ (at s c.at).outer = sym (drop-nil k) ∙ ap (λ (t : Streams). drop (suc k) (stack t)) (sym e) ∙
      n.left in
      let p : pending (suc k) (stack (at s i)) ≡ 1 = ap (λ (t : Streams). pending (suc k) (stack t)) e ∙
      none-pending k in
      subst (λ (ts : List Trees). skipped ts s c there) left
      (record {
        in_list = there_in n;
        forth = omega (arith, n.forth, n.rows, p);
        row = omega (arith, n.rows, p);
        here = ap (λ (t : Streams). t.here) e;
        outer = ap (λ (t : Streams). t.outer) e;
      })
    where
      none-pending : (k : ℕ) → 0 + 1 + pending k [] ≡ 1
      none-pending zero = refl
      none-pending (suc k) = refl

-- where a group is open
pub skipped_open : (s : List ℕ) (c d : Cursor) → follows (at s c.at).outer ≡ true →
    skipped (at s c.at).outer s c d → Skipped s c d
skipped_open s c d f k = go (at s c.at).outer f k
  where
    go : (ts : List Trees) → follows ts ≡ true → skipped ts s c d → Skipped s c d
    go [] f k = absurd (false≢true f)
    go (t ∷ ts) f k = k
