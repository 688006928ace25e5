-- A run of a list, copied as one part of it.
use mathlib.Core.Path.{◌≡◌, refl, ap, ◌∙◌, sym}
use mathlib.Core.Bool.{Bool, true, false}
use mathlib.Core.List.{List, [], ◌∷◌, ◌++◌, append_assoc}
use Prim.Native.Nat.{ℕ, zero, suc, ◌+◌, ◌-◌, ◌≤◌}
use native.Mathlib.Omega.{arith}
use borrow.Author.Tests.{ltb-true}
use lib.Dec.{eqb, ltb}
use lib.ListN.{length, take, drop, length-append, length-drop}
use lib.Seq.{slice, drop-drop, drop_at, take_at}
use Rattle.token_list.specs.Layout.{OPEN, CLOSE, marked, first_row, MAX_DEPTH}
use Rattle.token_list.specs.Row.{Row, lines, rows, written, bytes_before, first}
use Rattle.token_list.specs.Check.{check, passed, right, all_right, closed_by, enclosing, nested}
use Rattle.token_list.specs.Stream.{Trees, streams, size, rows_at, at, row_start}
use Rattle.token_list.specs.Contract.{InList}
use Rattle.token_list.specs.declared.check.Cursor.{Cursor}
use Rattle.token_list.proofs.Texts.{chosen, passed_over, and_parts, drop_of_take}
use Rattle.token_list.proofs.Starts.{lines_from, lines-from}
use Rattle.token_list.proofs.Rows.{written_append}
use Rattle.token_list.proofs.Passed.{passed_list}
use Rattle.token_list.proofs.Passes.{lines_of, lines-written, rows-lines}
use Rattle.writing.specs.Rows.{run_rows}
use Rattle.writing.proofs.Joined.{joined, rows_joined, rows_length}
use Rattle.writing.proofs.Balanced.{rows_here}

-- ## Parts

pub part_of : (f t : ℕ) (s : List ℕ) → take (t - f) (drop f s) ≡ slice f t s
part_of f t s = sym (drop_of_take f t s)

-- ## The rows from a row on

right-drop : (m : Bool) (n : ℕ) (rs : List Row) → all_right m rs ≡ true → all_right m (drop n rs) ≡ true
right-drop m zero rs e = e
right-drop m (suc n) [] e = e
right-drop m (suc n) (r ∷ rs) e = right-drop m n rs (and_parts (right m r) (all_right m rs) e).1

lines-drop : (m : Bool) (n : ℕ) (rs : List Row) → lines_from n (lines_of m rs) ≡ lines_of m (drop n rs)
lines-drop m zero rs = refl
lines-drop m (suc n) [] = refl
lines-drop m (suc n) (r ∷ rs) = lines-drop m n rs

rows-from : (s : List ℕ) {n : ℕ} → check s ≡ passed n → (row : ℕ)
    → rows_at s (row_start s row) ≡ drop row (rows_at s (first_row s))
unfolding row_start
rows-from s {n} c row =
    let m = marked s in
    let start = first_row s in
    let rs = rows_at s start in
    let p = passed_list s n c in
    let right = p.right_rows.right in
    let text : lines (drop start s) ≡ lines_of m rs = ap lines p.written ∙ lines-written m rs right in
    let before = bytes_before row (lines (drop start s)) in
    ap (λ (t : List ℕ). rows m (lines t)) (sym (drop-drop before start s))
    ∙ ap (rows m) (lines-from row (drop start s) ∙ ap (lines_from row) text ∙ lines-drop m row rs)
    ∙ rows-lines m (drop row rs) (right-drop m row rs right)

-- ## They nest

-- rows that nest under some groups
record Nests (m : Bool) (rs : List Row) : Type 0 where
  groups : List ℕ
  few : length groups ≤ MAX_DEPTH
  nests : nested m groups rs ≡ true

closed_length : (ds : List ℕ) → length (enclosing ds) ≤ length ds
closed_length [] = omega arith
closed_length (d ∷ ds) = omega arith

nests_next : (m : Bool) (r : Row) (rs : List Row) → Nests m (r ∷ rs) → Nests m rs
nests_next m r rs n = kind (eqb r.kind OPEN) (eqb r.kind CLOSE) refl refl
  where
    kind : (o c : Bool) → eqb r.kind OPEN ≡ o → eqb r.kind CLOSE ≡ c → Nests m rs
    kind true c a b =
        let p = and_parts (ltb (length n.groups) MAX_DEPTH) _
        (sym (chosen _ _ _ a) ∙ (and_parts (right m r) _ n.nests).1) in
        record {
          groups = first r.text ∷ n.groups;
          few = omega (arith, ltb-true (length n.groups) MAX_DEPTH p.0);
          nests = p.1;
        }
    kind false true a b =
        let p = and_parts (closed_by n.groups (first r.text)) _
        (sym (passed_over _ _ _ a ∙ chosen _ _ _ b) ∙ (and_parts (right m r) _ n.nests).1) in
        record { groups = enclosing n.groups; few = omega (arith, n.few, closed_length n.groups); nests = p.1 }
    kind false false a b =
        record {
          groups = n.groups;
          few = n.few;
          nests = sym (passed_over _ _ _ a ∙ passed_over _ _ _ b) ∙ (and_parts (right m r) _ n.nests).1;
        }

nests_drop : (m : Bool) (k : ℕ) (rs : List Row) → Nests m rs → Nests m (drop k rs)
nests_drop m zero rs n = n
nests_drop m (suc k) [] n = n
nests_drop m (suc k) (r ∷ rs) n = nests_drop m k rs (nests_next m r rs n)

-- ## The law: a run b at the cursor c, up to the cursor d

pub record Copied (s : List ℕ) (c d : Cursor) (b : Trees) : Type 0 where
  pub forth : c.at ≤ d.at
  pub rows : c.row + length (run_rows b) ≡ d.row
  pub bytes : slice c.at d.at s ≡ written (marked s) (run_rows b)
  pub here : rows_at s c.at ≡ run_rows b ++ rows_at s d.at

pub copied : (s : List ℕ) {n : ℕ} (c d : Cursor) (b us : Trees) → check s ≡ passed n → InList s c → InList s d
    → (at s c.at).here ≡ joined b us → d.row ≡ c.row + size b → Copied s c d b
unfolding at
copied s {n} c d b us passes i j here row =
    let m = marked s in
    let R = rows_at s (first_row s) in
    let first = ap (rows_at s) i.starts ∙ rows-from s passes c.row in
    let second = ap (rows_at s) j.starts ∙ rows-from s passes d.row in
    let all : Nests m R = record { groups = []; few = omega arith; nests = (passed_list s n passes).nested } in
    let k = nests_drop m c.row R all in
    let q = rows_here m (drop c.row R) k.groups k.few k.nests in
    let rest = run_rows us ++ q.0 in
    let stream = ap (λ (rs : List Row). (streams rs).here) (sym first) ∙ here in
    let split : drop c.row R ≡ run_rows b ++ rest =
    q.1 ∙ ap (λ (t : Trees). run_rows t ++ q.0) stream ∙ ap (λ (rs : List Row). rs ++ q.0) (rows_joined b us)
    ∙ append_assoc (run_rows b) (run_rows us) q.0 in
    let after : rows_at s d.at ≡ rest =
    second ∙ ap (λ (k : ℕ). drop k R) row ∙ sym (drop-drop (size b) c.row R) ∙ ap (drop (size b)) split
    ∙ drop_at (run_rows b) rest (size b) (rows_length b) in
    let text : drop c.at s ≡ written m (run_rows b) ++ drop d.at s =
    i.right_rows.written ∙ ap (written m) (first ∙ split) ∙ written_append m (run_rows b) rest
    ∙ ap (λ (t : List ℕ). written m (run_rows b) ++ t) (sym (j.right_rows.written ∙ ap (written m) after)) in
    let long = ap length text ∙ length-append (written m (run_rows b)) (drop d.at s) in
    let far : length (written m (run_rows b)) ≡ d.at - c.at =
    omega (arith, long, length-drop c.at s, length-drop d.at s, i.within, j.within) in
    record {
      forth = omega (arith, long, length-drop c.at s, length-drop d.at s, i.within, j.within);
      rows = omega (arith, rows_length b, row);
      bytes = sym (part_of c.at d.at s) ∙ ap (take (d.at - c.at)) text
          ∙ take_at (written m (run_rows b)) (drop d.at s) (d.at - c.at) far;
      here = first ∙ split ∙ ap (λ (rs : List Row). run_rows b ++ rs) (sym after);
    }
