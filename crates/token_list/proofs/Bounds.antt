-- How much a list that passes the check may hold: its bytes, its rows, and the texts of its stream; the numbers and
-- places of refusals.
use Rattle.std.specs.Prelude.{Result}
use mathlib.Core.Path.{◌≡◌, refl, ap, ◌∙◌, sym, subst}
use mathlib.Core.Logic.{inl, inr}
use mathlib.Core.Bool.{Bool, true, false, cond}
use mathlib.Core.List.{List, [], ◌∷◌, ◌++◌}
use Prim.Native.Nat.{ℕ, ◌+◌, ◌*◌, ◌≤◌, ◌<◌}
use native.Mathlib.Omega.{arith}
use borrow.Author.Tests.{eqb-true, eqb-false, leb-true, leb-false, ltb-false}
use lib.Dec.{eqb, leb, ltb}
use lib.ListN.{length, drop, length-append, length-drop}
use Rattle.token_list.specs.Text.{LF, closer}
use Rattle.token_list.specs.Layout.{marked, first_row, CLOSE, MAX_DEPTH, OPEN}
use Rattle.token_list.specs.Row.{Row, Lines, tail, line, lines, written, begun, Form, plain, opens, closed, wrong}
use Rattle.token_list.specs.Row.{form, mark_column_lem}
use Rattle.token_list.specs.Check.{Answer, passed, refused, END, Open, step, walk, named, check}
use Rattle.token_list.specs.Place.{OneRefusal, check_number}
use Rattle.token_list.specs.Contract.{checked, CheckedAs}
use Rattle.token_list.specs.declared.check.Refusal.{Refusal}
use Rattle.token_list.specs.Stream.{Trees, end, leaf, group, Streams, head, others, before, streams, rows_at, at}
use Rattle.token_list.proofs.Streams.{before-close, before_open, before_leaf}
use Rattle.token_list.proofs.Passed.{passed_list}

-- the bytes of a stream's texts, with those of its groups' insides
abbrev pub texts : Trees → ℕ
texts end = 0
texts (leaf r ts) = length r.text + texts ts
texts (group d ts us) = texts ts + texts us

-- a list that passes the check with n rows
pub record Bounded (s : List ℕ) (n : ℕ) : Type 0 where
  pub bytes : length s ≤ 65536
  pub rows : n ≤ 4096
  pub begun : begun (lines (drop (first_row s) s)) ≡ n
  -- a row has three bytes besides its text at least
  pub texts : texts (at s (first_row s)).here + 3 * n ≤ length s

-- ## Rows, and the numbers and places of refusals

-- an answer of lines in which b rows begin
data Limited (b : ℕ) : Answer → Type 0 where
  few : {n : ℕ} → b ≡ n → n ≤ 4096 → Limited b (passed n)
  ended : {n : ℕ} → check_number n ≡ true → Limited b (refused n END)
  low : {n p : ℕ} → check_number n ≡ true → p < b → p ≤ 4096 → Limited b (refused n p)

choice : {b : ℕ} (t : Bool) {a c : Answer} → Limited b a → Limited b c → Limited b (cond t a c)
choice true h k = h
choice false h k = k

-- the open groups stand in rows below r
abbrev Below : ℕ → List Open → Type 0
Below r [] = Unit {0}
Below r (g ∷ gs) = (g.row < r) × Below r gs

below_next : (r : ℕ) (gs : List Open) → Below r gs → Below (r + 1) gs
below_next r [] h = tt
below_next r (g ∷ gs) h = (omega (arith, h.0), below_next r gs h.1)

step_limited : {b : ℕ} (r : ℕ) (gs : List Open) (f : Form) (go : List Open → Answer) → r < b → r ≤ 4096 → Below r gs
    → ((hs : List Open) → Below (r + 1) hs → Limited b (go hs)) → Limited b (step r gs f go)
step_limited r gs wrong go l h o k = low refl l h
step_limited r gs plain go l h o k = k gs (below_next r gs o)
step_limited r gs (opens d) go l h o k =
    choice (leb MAX_DEPTH (length gs)) (low refl l h) (k _ (omega arith, below_next r gs o))
step_limited r [] (closed d) go l h o k = low refl l h
step_limited r (g ∷ gs) (closed d) go l h o k =
    choice (eqb (closer g.delimiter) d) (k gs (below_next r gs o.1)) (low refl l h)

-- row r begins: at most 4,096 rows stand before it, and a further one is refused
begin_limited : {b : ℕ} (r : ℕ) (a : Answer) → r ≤ 4096 → r < b → (r < 4096 → Limited b a) →
    Limited b (cond (leb 4096 r) (refused 4 4096) a)
begin_limited {b} r a h l k = go (leb 4096 r) refl
  where
    go : (t : Bool) → leb 4096 r ≡ t → Limited b (cond t (refused 4 4096) a)
    go true e = low {p = 4096} refl (omega (arith, leb-true 4096 r e)) (omega arith)
    go false e = k (omega (arith, leb-false 4096 r e))

walk_limited : {b : ℕ} (m : Bool) (ls : Lines) (r : ℕ) (gs : List Open) → r ≤ 4096 → Below r gs → r + begun ls ≡ b →
    Limited b (walk m r gs ls)
walk_limited m (tail []) r [] h o e = few {n = r} (omega arith) h
walk_limited m (tail []) r (g ∷ gs) h o e = low {p = g.row} refl (omega (arith, o.0)) (omega (arith, o.0))
walk_limited m (tail (x ∷ xs)) r gs h o e = begin_limited r _ h (omega arith) (λ i. low {p = r} refl (omega arith) h)
walk_limited m (line l ls) r gs h o e =
    begin_limited r _ h (omega arith)
    (λ i. step_limited r gs (form m l) (λ hs. walk m (r + 1) hs ls) (omega arith) h o
    (λ hs p. walk_limited m ls (r + 1) hs (omega arith) p (omega arith)))

check_limited : (s : List ℕ) → Limited (begun (lines (drop (first_row s) s))) (check s)
unfolding check
check_limited s =
    choice (ltb 65536 (length s)) (ended refl)
    (choice (named s) (walk_limited (marked s) (lines (drop (first_row s) s)) 0 [] (omega arith) tt (omega arith))
    (ended refl))

pub check-refusal : (s : List ℕ) (n p : ℕ) → check s ≡ refused n p → OneRefusal check_number s n p
check-refusal s n p e = go refl (rw e at (check_limited s))
  where
    go : {a : Answer} → a ≡ refused n p → Limited (begun (lines (drop (first_row s) s))) a
        → OneRefusal check_number s n p
    go q (few h k) = let z : ◌≡◌ {A = ℕ} 0 1 = cc in absurd (omega arith)
    go q (ended {n = m} k) =
        let number : m ≡ n = cc in
        let place : END ≡ p = cc in
        record { one = subst (λ (i : ℕ). check_number i ≡ true) number k; stands = inl (sym place) }
    go q (low {n = m} {p = o} k l h) =
        let number : m ≡ n = cc in
        let place : o ≡ p = cc in
        record {
          one = subst (λ (i : ℕ). check_number i ≡ true) number k;
          stands = inr (record {
            begins = omega (arith, place);
            low = omega (arith, place);
          });
        }

pub checked_as : (s : List ℕ) (r : Result ℕ Refusal) → checked r ≡ check s → CheckedAs s r
checked_as s r e = record { answer = e; refusal = λ n p q. check-refusal s n p (sym e ∙ q) }

-- ## Texts

-- the texts of the streams around
around : List Trees → ℕ
around [] = 0
around (t ∷ ts) = texts t + around ts

around_parts : (ts : List Trees) → around ts ≡ texts (head ts) + around (others ts)
unfolding around
around_parts [] = refl
around_parts (t ∷ ts) = refl

streams_texts : (m : Bool) (rs : List Row) →
    texts (streams rs).here + around (streams rs).outer + 3 * length rs ≤ length (written m rs)
unfolding around
streams_texts m [] = omega arith
streams_texts m (r ∷ rs) = kind (streams_texts m rs) (eqb r.kind OPEN) (eqb r.kind CLOSE) refl refl
  where
    total : Streams → ℕ
    total st = texts st.here + around st.outer

    long : length r.text + length (written m rs) + 3 ≤ length (written m (r ∷ rs))
    long = omega (
      arith,
      length-append (mark_column_lem m r.joint) (r.text ++ LF ∷ written m rs),
      length-append r.text (LF ∷ written m rs),
    )

    within : {st : Streams} → before r (streams rs) ≡ st → total st ≤ length r.text + total (streams rs) →
        total (streams rs) + 3 * length rs ≤ length (written m rs)
        → total (before r (streams rs)) + 3 * length (r ∷ rs) ≤ length (written m (r ∷ rs))
    within e h ih = let same = ap total e in omega (arith, long)

    kind : total (streams rs) + 3 * length rs ≤ length (written m rs) → (o c : Bool) →
        eqb r.kind OPEN ≡ o → eqb r.kind CLOSE ≡ c →
        total (before r (streams rs)) + 3 * length (r ∷ rs) ≤ length (written m (r ∷ rs))
    kind ih true c a b = within (before_open r (streams rs) (eqb-true _ _ a))
        (omega (arith, around_parts (streams rs).outer)) ih
    kind ih false true a b = within (before-close r (streams rs) (eqb-true _ _ b)) (omega arith) ih
    kind ih false false a b = within (before_leaf r (streams rs) (eqb-false _ _ a) (eqb-false _ _ b)) (omega arith) ih

-- ## The law

short : (s : List ℕ) {n : ℕ} → check s ≡ passed n → length s ≤ 65536
unfolding check
short s {n} e = go _ (ltb 65536 (length s)) refl e
  where
    go : (a : Answer) (b : Bool) → ltb 65536 (length s) ≡ b → cond b (refused 1 END) a ≡ passed n → length s ≤ 65536
    go a true h q = let z : ◌≡◌ {A = ℕ} 0 1 = cc in omega arith
    go a false h q = ltb-false 65536 (length s) h

pub bounds : (s : List ℕ) {n : ℕ} → check s ≡ passed n → Bounded s n
unfolding at around
bounds s {n} e =
    record {
      bytes = short s e;
      rows = (go (rw e at (check_limited s))).1;
      begun = (go (rw e at (check_limited s))).0;
      texts = omega (
        arith,
        streams_texts (marked s) (rows_at s (first_row s)),
        ap length (passed_list s n e).written,
        (passed_list s n e).count,
        length-drop (first_row s) s,
      );
    }
  where
    go : {b : ℕ} → Limited b (passed n) → (b ≡ n) × (n ≤ 4096)
    go (few e h) = (e, h)
