-- Laws on runs, a token at a time.
use mathlib.Core.Path.{◌≡◌, refl, ap, ◌∙◌, sym, subst, subst⁻¹}
use mathlib.Core.Bool.{Bool, true, false, cond, ◌&&◌}
use mathlib.Core.List.{List, [], ◌∷◌}
use Prim.Native.Nat.{ℕ, ◌+◌, ◌-◌, ◌≤◌}
use native.Mathlib.Omega.{arith}
use lib.Dec.{eqb}
use lib.ListN.{length, set}
use Rattle.token_list.specs.Layout.{PUNCT}
use Rattle.token_list.specs.Byte.{COMMA, GREATER, LESS, MINUS}
use Rattle.token_list.specs.Row.{Row, first}
use Rattle.token_list.specs.Stream.{Trees, leaf, at}
use Rattle.token_list.specs.Contract.{InList, TokenAt, LeafAt, row_of}
use Rattle.token_list.specs.declared.check.Cursor.{Cursor}
use Rattle.token_list.specs.declared.stream.Token.{Token}
use Rattle.token_list.proofs.Streams.{byte_of}
use Rattle.reading.specs.Took.{Took, took, onward}
use Rattle.reading.specs.Reading.{Stops, at_angle, at_comma, RunEnd, Verdict}
use Rattle.reading.specs.Reading.{belongs, ends, unopened, judge, judge_punct, judged, run_from, first_rows, kept, run}
use Rattle.parse.specs.Contract.{on, no, any, Meets, stands, refuses, stream, point, CursorAt, InsideAt}
use Rattle.parse.specs.Contract.{past_of, Belonged, run_end_of, RunAt}
use Rattle.parse.specs.declared.runs.Run.{Run}
use Rattle.reading.specs.Place.{end_of}
use Rattle.parse.proofs.Meeting.{leaf_belonged, Going, going_start, meets_as}
use Rattle.parse.proofs.Places.{meets_beyond}

pub judge_of : (st : Stops) (depth : ℕ) (m : Bool) (s : List ℕ) (i : ℕ) (t : Token) → TokenAt s i t
    → judge st depth m (row_of s t) ≡ cond (eqb t.kind PUNCT) (judge_punct st depth m t.byte) (belongs depth false)
judge_of st depth m s i t k =
    byte_of s i t k (λ (p : Bool) (b : ℕ). cond p (judge_punct st depth m b) (belongs depth false)) (λ x y. refl)

-- a token takes the depth up by one at most
depth_of : Verdict → ℕ
depth_of (belongs d m) = d
depth_of (ends e) = 0
depth_of unopened = 0

deepened : (st : Stops) (depth : ℕ) (m : Bool) (r : Row) → depth_of (judge st depth m r) ≤ depth + 1
unfolding depth_of
deepened st depth m r =
    go (eqb r.kind PUNCT) (m && eqb (first r.text) GREATER) (eqb (first r.text) LESS)
    (eqb (first r.text) GREATER)
    (eqb depth 0) st.angle
    (eqb (first r.text) COMMA && (eqb depth 0 && st.comma))
  where
    go : (p a o c z x k : Bool)
        → depth_of
        (cond p (cond a (belongs depth false) (cond o (belongs (depth + 1) false)
        (cond c (cond z (cond x (ends at_angle) unopened) (belongs (depth - 1) false))
        (cond k (ends at_comma) (belongs depth (eqb (first r.text) MINUS)))))) (belongs depth false)) ≤ depth + 1
    go false a o c z x k = omega arith
    go true true o c z x k = omega arith
    go true false true c z x k = omega arith
    go true false false true true true k = omega arith
    go true false false true true false k = omega arith
    go true false false true false x k = omega arith
    go true false false false z x true = omega arith
    go true false false false z x false = omega arith

pub deep_after : (st : Stops) (depth e : ℕ) (m n : Bool) (r : Row) → judge st depth m r ≡ belongs e n → e ≤ depth + 1
unfolding depth_of
deep_after st depth e m n r q = subst (λ (v : Verdict). depth_of v ≤ depth + 1) q (deepened st depth m r)

-- ## One token

module _ (st : Stops) (r : ℕ) (s : List ℕ) (c : Cursor) (in_list : InList s c) (depth : ℕ) (m : Bool) where
  abbrev here : Took RunEnd
  here = run_from st r depth m c.row (stream s c)

  module _ (t : Token) (l : LeafAt s c.at t) where
    pub turn_leaf : (d : Cursor) (b0 b1 : List ℕ) (e : ℕ) (n : Bool) → d ≡ past_of c t → b1 ≡ set b0 c.row r →
        judge st depth m (row_of s t) ≡ belongs e n
        → Belonged s c d b0 b1 here (run_from st r e n d.row (stream s d))
    turn_leaf d b0 b1 e n p q v =
        leaf_belonged (run_from st r depth m) s c in_list (λ x. Unit) t l d b0 b1 r p q (run_from st r e n)
        (ap (λ (x : Verdict). judged depth x
        (λ e n. onward (r ∷ []) (run_from st r e n (c.row + 1) (at s t.next).here))
        (leaf (row_of s t) (at s t.next).here) c.row) v)

-- ## A whole run: it came from the cursor `from` to c

pub record Running (s : List ℕ) (st : Stops) (r : ℕ) (from : Cursor) (before : List ℕ) (c : Cursor) (depth : ℕ)
    (m : Bool) (now : List ℕ) : Type 0 where
  pub going : Going s from before c now (run_from st r 0 false from.row (stream s from))
      (run_from st r depth m c.row (stream s c))
  pub deep : depth ≤ c.at

pub run-start : (s : List ℕ) (st : Stops) (r : ℕ) (c : Cursor) (b : List ℕ) → InList s c →
    Running s st r c b c 0 false b
run-start s st r c b i = record { going = going_start s c b _ i; deep = omega arith }

-- the whole run, with its record
module _ (s : List ℕ) (c : Cursor) {b0 b1 : List ℕ} (st : Stops) (role : ℕ) where
  pub run_read : (r : Run) → InList s c → r.from ≡ c →
      Meets s c b0 b1 (λ (v : RunEnd). run_end_of r ≡ v) (on r.to) (run_from st role 0 false c.row (stream s c))
      → Meets s c b0 b1 (RunAt s st role (point s c) r) (on r.to) (run st role c.row (stream s c))
  run_read r i f w = go refl w
    where
      go : {t : Took RunEnd} → run_from st role 0 false c.row (stream s c) ≡ t
          → Meets s c b0 b1 (λ (v : RunEnd). run_end_of r ≡ v) (on r.to) t
          → Meets s c b0 b1 (RunAt s st role (point s c) r) (on r.to) (run st role c.row (stream s c))
      go e (stands {rs = rs} {us = us} mv h) =
          let tokens = first_rows (stream s c) (length rs) in
          let gives : run st role c.row (stream s c) ≡ took tokens rs us = ap (kept (stream s c)) e in
          let plain : Meets s c b0 b1 any (on r.to) (run st role c.row (stream s c)) =
          meets_as gives (stands mv tt) in
          let first : CursorAt s (point s c) c = record { in_list = i; here = refl } in
          let inside : InsideAt (run st role) s c tokens =
          record { in_list = i; roles = rs; rest = us; gives = gives } in
          meets_as gives
          (stands mv (record {
            from = subst⁻¹ (CursorAt s (point s c)) f first;
            to = meets_beyond (run st role) plain;
            ended = h ∙ sym (ap end_of e);
            tokens = subst⁻¹ (λ (x : Cursor). InsideAt (run st role) s x tokens) f inside;
          }))

  pub run_refused : {n p : ℕ} {sh : RunEnd → Type 0} {sh2 : Trees → Type 0} → Meets s c b0 b1 sh (no n p)
      (run_from st role 0 false c.row (stream s c))
      → Meets s c b0 b1 sh2 (no n p) (run st role c.row (stream s c))
  run_refused {n} {p} {sh} {sh2} w = go refl w
    where
      go : {t : Took RunEnd} → run_from st role 0 false c.row (stream s c) ≡ t → Meets s c b0 b1 sh (no n p) t
          → Meets s c b0 b1 sh2 (no n p) (run st role c.row (stream s c))
      go e (refuses qs q) = meets_as (ap (kept (stream s c)) e) (refuses qs q)
