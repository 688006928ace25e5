-- Laws on the item and on the whole answer.
use mathlib.Core.Path.{◌≡◌, refl, ap, ◌∙◌, sym, subst, subst⁻¹}
use mathlib.Core.List.{List, ◌++◌, append-nil}
use Prim.Native.Nat.{ℕ, ◌+◌, ◌-◌, ◌≤◌, ◌<◌}
use native.Mathlib.Omega.{arith}
use borrow.Author.Tests.{lt-ltb, le-ltb}
use lib.ListN.{length, replicate, length-append, length-replicate, drop_of_length-le}
use lib.Seq.{sets, sets-eq, length-sets}
use Rattle.token_list.specs.Layout.{names, marked, first_row}
use Rattle.token_list.specs.Text.{same}
use Rattle.token_list.specs.Check as list
use Rattle.token_list.specs.Stream.{size, at}
use Rattle.token_list.specs.Contract.{InList, start_of}
use Rattle.token_list.specs.declared.check.Cursor.{Cursor}
use Rattle.token_list.specs.declared.check.Refusal.{Refusal}
use Rattle.token_list.proofs.Texts.{chosen, passed_over, same_self}
use Rattle.token_list.proofs.Columns.{names-within}
use Rattle.token_list.proofs.Passed.{passed_list}
use Rattle.token_list.proofs.Starts.{first-start}
use Rattle.reading.specs.Declaration.{Declaration}
use Rattle.reading.specs.Took.{Took}
use Rattle.reading.specs.Reading.{item}
use Rattle.reading.specs.Answer.{Answer, declared, refused, item_answer, answer, buffer, accepts}
use Rattle.parse.specs.Contract.{Meets, stands, refuses, on, no, ParsedAs, Answered}
use Rattle.parse.specs.Contract.{accepted, stream, item_shown, item_said, parts_shown}
use Rattle.parse.specs.declared.item.ItemAt.{ItemAt}
use Rattle.std.specs.Prelude.{Result, Ok, Err}
use Rattle.parse.proofs.Buffer.{sets_append}
use Rattle.parse.proofs.Meeting.{meets_show, meets_none}
use Rattle.parse.proofs.Places.{meets_beyond}
use Rattle.reading.proofs.Places as places
use Rattle.reading.proofs.Conserved.{conserved, item_conserved}

-- ## The role buffer

pub sets_all : (l vs : List ℕ) → length vs ≡ length l → sets l 0 vs ≡ vs
sets_all l vs e =
    sets-eq vs l 0 (omega arith)
    ∙ ap (λ (t : List ℕ). vs ++ t) (drop_of_length-le l {i = 0 + length vs} (omega arith))
    ∙ append-nil vs

pub fill_all : (l : List ℕ) (v : ℕ) → sets l 0 (replicate (length l - 0) v) ≡ replicate (length l) v
fill_all l v =
    let z : length l - 0 ≡ length l = omega arith in
    ap (λ (n : ℕ). sets l 0 (replicate n v)) z ∙ sets_all l (replicate (length l) v) (length-replicate (length l) v)

-- the roles of an item, 0 for the rows left over, and 255
filled : (b0 b1 rs : List ℕ) (end rows left : ℕ) → b1 ≡ sets b0 0 rs → end ≡ length rs → length rs + left ≡ rows →
    rows ≤ length b0
    → sets (sets b1 end (replicate (rows - end) 0)) rows (replicate (length b1 - rows) 255)
    ≡ (rs ++ replicate left 0) ++ replicate (length b0 - length (rs ++ replicate left 0)) 255
filled b0 b1 rs end rows left e f g h =
    let z : rows - end ≡ left = omega (arith, f, g) in
    let q : length b1 ≡ length b0 = ap length e ∙ length-sets b0 0 rs in
    let n : length (rs ++ replicate left 0) ≡ rows = omega (
      arith,
      length-append rs (replicate left 0),
      length-replicate {A = ℕ} left 0,
      g,
    ) in
    let y : length b1 - rows ≡ length b0 - length (rs ++ replicate left 0) = omega (arith, q, n) in
    let first : sets b1 end (replicate (rows - end) 0) ≡ sets b0 0 (rs ++ replicate left 0) =
    (λ i. sets (e i) (f i) (replicate (z i) 0)) ∙ ap (λ (k : ℕ). sets (sets b0 0 rs) k (replicate left 0))
    (omega_zero (length rs)) ∙ sym (sets_append b0 0 rs (replicate left 0)) in
    (λ i. sets (first i) (sym n i) (replicate (y i) 255))
    ∙ ap (λ (k : ℕ). sets (sets b0 0 (rs ++ replicate left 0)) k
    (replicate (length b0 - length (rs ++ replicate left 0)) 255)) (omega_zero (length (rs ++ replicate left 0)))
    ∙ sym (sets_append b0 0 (rs ++ replicate left 0) (replicate (length b0 - length (rs ++ replicate left 0)) 255))
    ∙ sets_all b0 ((rs ++ replicate left 0) ++ replicate (length b0 - length (rs ++ replicate left 0)) 255)
    (omega (
      arith,
      length-append (rs ++ replicate left 0) (replicate (length b0 - length (rs ++ replicate left 0)) 255),
      length-replicate {A = ℕ} (length b0 - length (rs ++ replicate left 0)) 255,
      n,
    ))
  where
    omega_zero : (k : ℕ) → k ≡ 0 + k
    omega_zero k = omega arith

-- ## The answer

module _ (s : List ℕ) (k : ℕ) where
  pub answer_refused : (n p : ℕ) → list.check s ≡ list.Answer.refused n p → answer s k ≡ refused n p
  unfolding answer
  answer_refused n p e = rw e

  pub answer-short : (rows : ℕ) → list.check s ≡ list.Answer.passed rows → k < rows → answer s k ≡ refused 8 list.END
  unfolding answer
  answer-short rows e h = rw e (chosen _ _ _ (lt-ltb _ _ h))

  pub answer_read : (rows : ℕ) → list.check s ≡ list.Answer.passed rows → rows ≤ k →
      answer s k ≡ item_answer (item 0 (at s (first_row s)).here)
  unfolding answer
  answer_read rows e h = rw e (passed_over _ _ _ (le-ltb _ _ h))

pub first_in : (s : List ℕ) (rows : ℕ) → list.check s ≡ list.passed rows → InList s (start_of s)
first_in s rows e =
    let p = passed_list s rows e in
    record {
      starts = first-start s;
      counted = omega arith;
      within = names-within s (ap (λ (t : List ℕ). same t (names (marked s))) p.names ∙ same_self (names
          (marked s)));
      right_rows = p.right_rows;
    }

-- the same of a cursor that is told to be the first
pub start_in : {s : List ℕ} {c : Cursor} {rows : ℕ} → c ≡ start_of s → list.check s ≡ list.passed rows → InList s c
start_in {s} {rows = rows} e p = subst⁻¹ (InList s) e (first_in s rows p)

pub from_start : {s b0 b1 : List ℕ} {c : Cursor} (r : Result ItemAt Refusal) → c ≡ start_of s
    → Meets s c b0 b1 (item_shown s c r) (item_said r) (item c.row (stream s c))
    → Meets s (start_of s) b0 b1 (item_shown s (start_of s) r) (item_said r) (item 0 (at s (first_row s)).here)
from_start {s} {b0} {b1} r e m =
    subst (λ (c : Cursor). Meets s c b0 b1 (item_shown s c r) (item_said r) (item c.row (stream s c))) e m

-- an item's parts, and where it ends
pub item_ends : {s : List ℕ} {c : Cursor} {b0 b1 : List ℕ} (r : Result ItemAt Refusal) →
    Meets s c b0 b1 (parts_shown s c r) (item_said r) (item c.row (stream s c))
    → Meets s c b0 b1 (item_shown s c r) (item_said r) (item c.row (stream s c))
item_ends (Ok i) m = meets_show (λ d h. (h.0, h.1, meets_beyond item m)) m
item_ends (Err r) m = meets_none m

-- ## The code's answers

pub answered_refused : (s b0 : List ℕ) {b1 : List ℕ} {p : Result ItemAt Refusal} (r : Refusal) → p ≡ Err r →
    answer s (length b0) ≡ refused r.number r.place → b1 ≡ replicate (length b0) 255
    → Answered s p b0 b1
answered_refused s b0 {b1} r w e q =
    subst⁻¹ (λ (p : Result ItemAt Refusal). Answered s p b0 b1) w
    (record {
      answer = subst⁻¹ (ParsedAs s (Err r)) e (refl, refl);
      refusal = places.answer_read s (length
          b0);
      buffer = q ∙ sym (ap (buffer (length b0)) e);
    })

module _ (s : List ℕ) (rows : ℕ) (e : list.check s ≡ list.passed rows) (b0 : List ℕ) (room : rows ≤ length b0) where
  pub read_refused : {b1 b2 : List ℕ} {sh : Declaration → Type 0} {p : Result ItemAt Refusal} (r : Refusal) →
      Meets s (start_of s) b0 b1 sh (no r.number r.place) (item 0 (at s (first_row s)).here)
      → p ≡ Err r → b2 ≡ replicate (length b0) 255 → Answered s p b0 b2
  read_refused {b1} {sh = sh} r m w q = answered_refused s b0 r w (answer_read s (length b0) rows e room ∙ go m) q
    where
      go : {t : Took Declaration} → Meets s (start_of s) b0 b1 sh (no r.number r.place) t →
          item_answer t ≡ refused r.number r.place
      go (refuses qs q) = refl

  pub read_accepted : {b1 b2 : List ℕ} {p : Result ItemAt Refusal} (i : ItemAt) →
      Meets s (start_of s) b0 b1 (item_shown s (start_of s) (Ok i)) (on i.next) (item 0 (at s
      (first_row s)).here)
      → b2 ≡ sets (sets b1 i.next.row (replicate (rows - i.next.row) 0)) rows
      (replicate (length b1 - rows) 255) → p ≡ Ok i → Answered s p b0 b2
  read_accepted {b1} {b2} i m q w = subst⁻¹ (λ (p : Result ItemAt Refusal). Answered s p b0 b2) w (go refl m)
    where
      go : {t : Took Declaration} → item 0 (at s (first_row s)).here ≡ t →
          Meets s (start_of s) b0 b1 (item_shown s (start_of s) (Ok i)) (on i.next) t → Answered s
          (Ok i) b0 b2
      go f (stands {a = d} {rs = rs} {us = us} mv o) =
          let a = answer_read s (length b0) rows e room ∙ ap item_answer f in
          let c = conserved (item_conserved (at s (first_row s)).here f) in
          let n : i.next.row ≡ length rs = omega (arith, mv.row) in
          record {
            answer = subst⁻¹ (ParsedAs s (Ok i)) a o;
            refusal = places.answer_read s (length b0);
            buffer = q ∙ filled b0 b1 rs i.next.row rows (size us) mv.roles n
                (c.rows ∙ (passed_list s rows e).size) room ∙ sym (ap (buffer (length b0)) a);
          }

-- what the answer tells of acceptance
accepts_of : (s : List ℕ) (r : Result ItemAt Refusal) (a : Answer) → ParsedAs s r a → accepted r ≡ accepts a
accepts_of s (Ok i) (declared d rs) h = refl
accepts_of s (Err r) (declared d rs) h = absurd h
accepts_of s (Ok i) (refused n p) h = absurd h
accepts_of s (Err r) (refused n p) h = refl

pub accepted_as : {s b0 b1 : List ℕ} {r : Result ItemAt Refusal} → Answered s r b0 b1 →
    accepted r ≡ accepts (answer s (length b0))
accepted_as {s} {b0} {b1} {r} h = accepts_of s r (answer s (length b0)) h.answer
