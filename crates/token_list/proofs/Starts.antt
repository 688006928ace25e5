-- Where the rows of a list start.
use mathlib.Core.Path.{◌≡◌, refl, ap, ◌∙◌, sym, subst}
use mathlib.Core.Bool.{Bool, true, false}
use mathlib.Core.List.{List, [], ◌∷◌}
use Prim.Native.Nat.{ℕ, zero, suc, ◌+◌, ◌≤◌, ◌<◌}
use native.Mathlib.Numerals.{add-one}
use native.Mathlib.Omega.{arith}
use lib.Dec.{eqb}
use lib.ListN.{length, drop}
use lib.Seq.{slice, length-slice, drop-drop}
use Rattle.token_list.specs.Text.{LF}
use Rattle.token_list.specs.Layout.{NAMES_DIFFER, first_row}
use Rattle.token_list.specs.Row.{Lines, tail, line, lines, byte, bytes_before, begun}
use Rattle.token_list.specs.Stream.{row_start}
use Rattle.token_list.specs.Contract.{RowEnd, InList}
use Rattle.token_list.specs.declared.check.Cursor.{Cursor}
use Rattle.token_list.proofs.Columns.{first-row_low}

-- the lines from row r on
abbrev pub lines_from : ℕ → Lines → Lines
lines_from zero ls = ls
lines_from (suc r) (tail t) = tail t
lines_from (suc r) (line l ls) = lines_from r ls

tail_no_line : {A : Type 0} {t l : List ℕ} {ls : Lines} → tail t ≡ line l ls → A
tail_no_line e = let z : ◌≡◌ {A = ℕ} 0 1 = cc in absurd (omega arith)

-- past the first line
lines_cut : (bs l : List ℕ) (ls : Lines) → lines bs ≡ line l ls → lines (drop (length l + 1) bs) ≡ ls
lines_cut [] l ls e = tail_no_line e
lines_cut (b ∷ bs) l ls e = go (lines_cut bs) (eqb b LF) (lines bs) refl e
  where
    go : ((k : List ℕ) (ks : Lines) → lines bs ≡ line k ks → lines (drop (length k + 1) bs) ≡ ks) →
        (lf : Bool) (ms : Lines)
        → lines bs ≡ ms → byte lf b ms ≡ line l ls → lines (drop (length l + 1) (b ∷ bs)) ≡ ls
    go ih true ms m q =
        let none : [] ≡ l = cc in
        let rest : ms ≡ ls = cc in
        subst (λ (k : List ℕ). lines (drop (length k + 1) (b ∷ bs)) ≡ ls) none (m ∙ rest)
    go ih false (tail t) m q = tail_no_line q
    go ih false (line k ks) m q =
        let text : b ∷ k ≡ l = cc in
        let rest : ks ≡ ls = cc in
        let n : suc (length k) + 1 ≡ suc (length k + 1) = omega arith in
        subst (λ (x : List ℕ). lines (drop (length x + 1) (b ∷ bs)) ≡ ls) text
        (ap (λ (j : ℕ). lines (drop j (b ∷ bs))) n ∙ ih k ks m ∙ rest)

pub lines-from : (r : ℕ) (bs : List ℕ) → lines (drop (bytes_before r (lines bs)) bs) ≡ lines_from r (lines bs)
lines-from zero bs = refl
lines-from (suc r) bs = go (lines-from r) (lines bs) refl
  where
    go : ((cs : List ℕ) → lines (drop (bytes_before r (lines cs)) cs) ≡ lines_from r (lines cs)) → (ls : Lines) →
        lines bs ≡ ls
        → lines (drop (bytes_before (suc r) ls) bs) ≡ lines_from (suc r) ls
    go ih (tail t) e = e
    go ih (line l ls) e =
        let cut = lines_cut bs l ls e in
        ap lines (sym (drop-drop (bytes_before r ls) (length l + 1) bs))
        ∙ ap (λ (ms : Lines). lines (drop (bytes_before r ms) (drop (length l + 1) bs))) (sym cut)
        ∙ ih (drop (length l + 1) bs)
        ∙ ap (lines_from r) cut

before_next : (r : ℕ) (ls : Lines) (l : List ℕ) (ms : Lines) → lines_from r ls ≡ line l ms →
    bytes_before (suc r) ls ≡ bytes_before r ls + length l + 1
before_next zero (tail t) l ms e = tail_no_line e
before_next zero (line k ks) l ms e =
    let same : k ≡ l = cc in
    omega (arith, ap length same)
before_next (suc r) (tail t) l ms e = tail_no_line e
before_next (suc r) (line k ks) l ms e = omega (arith, before_next r ks l ms e)

-- the lines from row r on begin where it starts
here : (s : List ℕ) (r i : ℕ) → i ≡ row_start s r → lines_from r (lines (drop (first_row s) s)) ≡ lines (drop i s)
unfolding row_start
here s r i h =
    let before = bytes_before r (lines (drop (first_row s) s)) in
    sym (lines-from r (drop (first_row s) s)) ∙ ap lines (drop-drop before (first_row s) s) ∙
    ap (λ (k : ℕ). lines (drop k s)) (sym h)

begun_low : (r : ℕ) (ls : Lines) (l : List ℕ) (ms : Lines) → lines_from r ls ≡ line l ms → r < begun ls
begun_low zero (tail t) l ms e = tail_no_line e
begun_low zero (line k ks) l ms e = omega arith
begun_low (suc r) (tail t) l ms e = tail_no_line e
begun_low (suc r) (line k ks) l ms e = omega (arith, begun_low r ks l ms e)

-- a row that ends is one of those that begin
pub row-begins : (s : List ℕ) (r e : ℕ) → RowEnd s (row_start s r) e → r < begun (lines (drop (first_row s) s))
row-begins s r e l =
    begun_low r (lines (drop (first_row s) s)) (slice (row_start s r) e s) _
    (here s r (row_start s r) refl ∙ l.line.found l.within)

-- the row after the one that starts at i starts past its LF
pub next_start : (s : List ℕ) (r i e : ℕ) → i ≡ row_start s r → RowEnd s i e → e + 1 ≡ row_start s (r + 1)
unfolding row_start
next_start s r i e h l =
    let next = before_next r (lines (drop (first_row s) s)) (slice i e s) _
    (here s r i h ∙ l.line.found l.within) in
    let up = ap (λ (k : ℕ). bytes_before k (lines (drop (first_row s) s))) (add-one r) in
    omega (arith, next, up, h, length-slice i e s (omega (arith, l.within)), l.long)

-- row 0 starts after the line of names
pub first-start : (s : List ℕ) → first_row s ≡ row_start s 0
unfolding row_start
first-start s = omega arith

-- every row starts after it, so the list has the byte that tells its names
pub start_low : (s : List ℕ) (r : ℕ) → 10 ≤ row_start s r
unfolding row_start
start_low s r = omega (arith, first-row_low s)

pub list_long : {s : List ℕ} {c : Cursor} → InList s c → NAMES_DIFFER < length s
list_long {s} {c} i = omega (arith, i.starts, i.within, start_low s c.row)
