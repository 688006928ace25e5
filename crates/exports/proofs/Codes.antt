-- A number gives its case back; the cases of the answers are small enough for it.
use mathlib.Core.Path.{◌≡◌, refl, ap, ◌∙◌, sym, subst}
use mathlib.Core.Logic.{⊎_elim}
use mathlib.Core.Bool.{Bool, true, false, cond, false≢true}
use mathlib.Core.List.{List}
use Prim.Native.Nat.{ℕ, zero, suc, ◌+◌, ◌*◌, ◌/◌, ◌%◌, ◌≤◌, ◌<◌}
use native.Mathlib.Nat.{mul-add-div_right, mul-add-mod_self_right, div-eq_of_lt, mod-eq_of_lt}
use native.Mathlib.Omega.{arith}
use borrow.Author.Tests.{lt-ltb, le-ltb, eq-eqb, ne_eqb}
use lib.Dec.{eqb}
use lib.ListN.{length}
use lib.Seq.{length-take-le}
use Rattle.token_list.specs.Pairs.{pairs}
use Rattle.token_list.specs.Check as list
use Rattle.token_list.specs.Contract.{ComparedAs, checked}
use Rattle.token_list.specs.Place.{OneRefusal, check_number}
use Rattle.token_list.specs.declared.check.Refusal.{Refusal}
use Rattle.token_list.specs.declared.text.Compared.{Compared}
use Rattle.token_list.proofs.Texts.{chosen, passed_over}
use Rattle.token_list.proofs.Bounds.{bounds, check-refusal}
use Rattle.std.specs.Prelude.{Option, Some, None, Result, Ok, Err, MatchResult, IsOkAnd}
use Rattle.reading.specs.Declaration.{Kind, struct, enum}
use Rattle.reading.specs.Answer as answers
use Rattle.reading.specs.Answer.{read_number}
use Rattle.reading.proofs.Places.{answer_read}
use Rattle.output.specs.Answer as outputs
use Rattle.output.specs.Written.{WrittenAs}
use Rattle.parse.specs.Contract.{ParsedAs, kind_of}
use Rattle.parse.specs.declared.item.ItemAt.{ItemAt}
use Rattle.describe.specs.Listing as listing
use Rattle.describe.specs.Value as value
use Rattle.describe.specs.Contract.{InRange, text_start, text_end, place_of, Placed}
use Rattle.describe.specs.declared.value.ValuePlace.{ValuePlace}
use Rattle.describe.specs.declared.value.ValuePlace.TheVariants as places
use Rattle.describe.proofs.Length.{fits}
use Rattle.exports.specs.Code.{IN_LIST, Case, accepted, refusal, REFUSED, code, decoded, Coded, check_case}
use Rattle.exports.specs.Code.{kind_code, read_case, written_case, answer_case}
use Rattle.exports.specs.Code.{LowPlace, WrittenInto, place_number, place_case}
use Rattle.exports.specs.Code.{decoded_place, ValueInto, NamesCompared}

-- ## A number gives back its case, number and place

abbrev pub Small : Case → Type 0
Small (accepted v) = v < REFUSED
Small (refusal n p) = (1 ≤ n) × (p < REFUSED)

-- what stands above and below in one number
pub upper : (m n p : ℕ) → 0 < m → p < m → (n * m + p) / m ≡ n
upper m n p h l = mul-add-div_right h n p ∙ (let z = div-eq_of_lt l in omega (arith, z))

pub lower : (m n p : ℕ) → p < m → (n * m + p) % m ≡ p
lower m n p l = mul-add-mod_self_right n m p ∙ mod-eq_of_lt l

pub gives_back : (c : Case) → Small c → decoded (code c) ≡ c
unfolding decoded
gives_back (accepted v) h = chosen _ _ _ (lt-ltb v REFUSED h)
gives_back (refusal n p) h =
    passed_over _ _ _ (le-ltb (n * REFUSED + p) REFUSED (omega (arith, h.0)))
    ∙ (λ i. refusal (upper REFUSED n p (omega arith) h.1 i) (lower REFUSED n p h.1 i))

pub place_low : {f : ℕ → Bool} {s : List ℕ} {n p : ℕ} → OneRefusal f s n p → p ≤ 65535
place_low o = ⊎_elim (λ e. omega (arith, e)) (λ k. omega (arith, k.low)) o.stands

-- a case whose refusal has one of these numbers, with a row or the end mark
pub data Told (numbers : ℕ → Bool) (s : List ℕ) : Case → Type 0 where
  small : {v : ℕ} → v < REFUSED → Told numbers s (accepted v)
  one : {n p : ℕ} → 1 ≤ n → OneRefusal numbers s n p → Told numbers s (refusal n p)

pub coded_as : {f : ℕ → Bool} {s : List ℕ} {c : Case} {r : ℕ} → Told f s c → r ≡ code c → Coded f s c r
coded_as {c = c} t e =
    let back = ap decoded e ∙ gives_back c (low t) in
    record { code = e; back = back; refusal = λ n p q. given (sym back ∙ q) t }
  where
    low : {f : ℕ → Bool} {s : List ℕ} {c : Case} → Told f s c → Small c
    low (small h) = h
    low (one h o) = (h, omega (arith, place_low o))

    given : {f : ℕ → Bool} {s : List ℕ} {c : Case} {n p : ℕ} → c ≡ refusal n p → Told f s c → OneRefusal f s n p
    given q (small h) = let z : ◌≡◌ {A = ℕ} 0 1 = cc in absurd (omega arith)
    given {f} {s} {n = n} {p = p} q (one {n = m} {p = o} h k) =
        let number : m ≡ n = cc in
        let place : o ≡ p = cc in
        subst (λ (i : ℕ). OneRefusal f s i p) number (subst (OneRefusal f s m) place k)

-- a value's place too
pub place_back : (p : Result (Option ValuePlace) Refusal) → InRange p → decoded_place (place_case p) ≡ p
unfolding decoded_place
place_back (Ok None) h = refl
place_back (Ok (Some (places.InScratch n))) h =
    passed_over _ _ _ (ne_eqb n 0 (λ e. omega (arith, h.0, e))) ∙ chosen _ _ _ (lt-ltb n 65536 (omega (arith, h.1)))
place_back (Ok (Some (places.InList a e))) h =
    passed_over _ _ _ (ne_eqb (a * 65536 + e) 0 (λ q. omega (arith, h.0, q)))
    ∙ passed_over _ _ _ (le-ltb (a * 65536 + e) 65536 (omega (arith, h.0)))
    ∙ (λ i. Ok (Some (places.InList (upper 65536 a e (omega arith) h.2 i) (lower 65536 a e h.2 i))))
place_back (Err r) h = refl

-- ## The cases are small

-- where 0 is none of the numbers, they begin at 1
pub from_one : (f : ℕ → Bool) → f 0 ≡ false → (n : ℕ) → f n ≡ true → 1 ≤ n
from_one f z zero e = absurd (false≢true (sym z ∙ e))
from_one f z (suc n) e = omega arith

pub read_small : {s : List ℕ} {n p : ℕ} → OneRefusal read_number s n p → (1 ≤ n) × (p ≤ 65535)
read_small {n = n} o = (from_one read_number refl n o.one, place_low o)

pub check_small : {s : List ℕ} {n p : ℕ} → OneRefusal check_number s n p → (1 ≤ n) × (p ≤ 65535)
check_small {n = n} o = (from_one check_number refl n o.one, place_low o)

pub checked_told : (s : List ℕ) → Told check_number s (check_case (list.check s))
checked_told s = go (list.check s) refl
  where
    go : (a : list.Answer) → list.check s ≡ a → Told check_number s (check_case a)
    go (list.Answer.passed n) e = small {v = n} (omega (arith, (bounds s e).rows))
    go (list.Answer.refused n p) e = let o = check-refusal s n p e in one (check_small o).0 o

pub kind_small : (k : Kind) → kind_code k < REFUSED
kind_small struct = omega arith
kind_small enum = omega arith

pub answered_told : (s : List ℕ) (room : ℕ) → Told read_number s (read_case (answers.answer s room))
answered_told s room = go (answers.answer s room) refl
  where
    go : (a : answers.Answer) → answers.answer s room ≡ a → Told read_number s (read_case a)
    go (answers.declared d rs) e = small (kind_small d.kind)
    go (answers.refused n p) e = let o = answer_read s room n p e in one (read_small o).0 o

pub listed_told : (s : List ℕ) (room : ℕ) →
    ((n p : ℕ) → listing.answer s room ≡ outputs.refused n p → OneRefusal listing.listing_number s n p)
    → Told listing.listing_number s (written_case (listing.answer s room))
listed_told s room k = go (listing.answer s room) refl
  where
    go : (a : outputs.Answer) → listing.answer s room ≡ a → Told listing.listing_number s (written_case a)
    go (outputs.wrote text) e = small {v = length text} (omega (arith, (fits s room).longest text e))
    go (outputs.refused n p) e =
        let o = k n p e in
        one (from_one listing.listing_number refl n o.one) o

placed_told : (s : List ℕ) (a : value.Answer) → InRange (place_of s a) →
    ((n p : ℕ) → a ≡ value.refused n p → OneRefusal read_number s n p)
    → Told read_number s (place_case (place_of s a))
placed_told s value.none h k = small {v = 0} (omega arith)
placed_told s (value.in_list row t) h k =
    small {v = text_start s row * IN_LIST + text_end s row} (omega (arith, h.1, h.2))
placed_told s (value.in_scratch t) h k = small {v = length t} (omega (arith, h.1))
placed_told s (value.refused n p) h k = let o = k n p refl in one (read_small o).0 o

-- ## The code's answer tells its case

module _ {f : ℕ → Bool} {s : List ℕ} {c : Case} (t : Told f s c) (w : Result ℕ Refusal) (same : answer_case w ≡ c) where
  pub low_case : LowPlace w
  low_case = go w same
    where
      low : {n p : ℕ} → Told f s (refusal n p) → p ≤ list.END
      low (one k o) = place_low o

      go : (w : Result ℕ Refusal) → answer_case w ≡ c → LowPlace w
      go (Ok v) e = tt
      go (Err r) e = low (subst (Told f s) (sym e) t)

  pub case_coded : {r : ℕ} → r ≡ code (answer_case w) → Coded f s c r
  case_coded e = coded_as t (e ∙ ap code same)

-- an answer whose acceptance is told by a number
abbrev pub numbered : {T E : Type 0} → (T → ℕ) → Result T E → Result ℕ E
numbered v (Ok x) = Ok (v x)
numbered v (Err e) = Err e

-- what `map` says, where the call's answer is that number
pub mapped : {T E : Type 0} (v : T → ℕ) {P : T → ℕ → Type 0} (r : Result T E) (w : Result ℕ E)
    → MatchResult r (λ x. IsOkAnd w (P x)) (λ e. w ≡ Err e) → ((x : T) (n : ℕ) → P x n → n ≡ v x)
    → w ≡ numbered v r
mapped v (Ok x) (Ok n) h g = ap Ok (g x n h)
mapped v (Ok x) (Err e) h g = absurd h
mapped v (Err e) w h g = h

pub checked_case : (w : Result ℕ Refusal) → answer_case w ≡ check_case (checked w)
checked_case (Ok n) = refl
checked_case (Err r) = refl

pub read_same : (s : List ℕ) (r : Result ItemAt Refusal) (a : answers.Answer) → ParsedAs s r a →
    answer_case (numbered (λ i. kind_code (kind_of i.kind)) r) ≡ read_case a
read_same s (Ok i) (answers.declared d rs) h = sym (ap (λ (k : Kind). accepted (kind_code k)) h.0.kind)
read_same s (Ok i) (answers.refused n p) h = absurd h
read_same s (Err r) (answers.declared d rs) h = absurd h
read_same s (Err r) (answers.refused n p) h = λ i. refusal (h.0 i) (h.1 i)

pub place_same : (r : Result (Option ValuePlace) Refusal) → answer_case (numbered place_number r) ≡ place_case r
place_same (Ok p) = refl
place_same (Err r) = refl

pub written_same : {x y : List ℕ} {a : outputs.Answer} (w : Result ℕ Refusal) → WrittenAs x y a w →
    answer_case w ≡ written_case a
written_same {y = y} (Ok n) h = ap accepted (sym (length-take-le n y h.room)) ∙ ap written_case h.answer
written_same (Err r) h = ap written_case h.answer

pub written_into : {f : ℕ → Bool} {s x y : List ℕ} {a : outputs.Answer} → Told f s (written_case a)
    → (w : Result ℕ Refusal) → WrittenAs x y a w → {r : ℕ} → r ≡ code (answer_case w) → WrittenInto f s x y a r
written_into t w h e = record { coded = case_coded t w (written_same w h) e; output = h.output }

-- ## A value's place

module _ (s : List ℕ) (position : ℕ) (x y : List ℕ) {r : Result (Option ValuePlace) Refusal}
    (h : Placed s x y (value.answer s position (length x)) r)
    (k : (n p : ℕ) → value.answer s position (length x) ≡ value.refused n p → OneRefusal read_number s n p)
    (w : Result ℕ Refusal) (same : w ≡ numbered place_number r) where
  abbrev a : value.Answer
  a = value.answer s position (length x)

  range : InRange (place_of s a)
  range = subst InRange h.place h.range

  told : Told read_number s (place_case (place_of s a))
  told = placed_told s a range k

  tells : answer_case w ≡ place_case (place_of s a)
  tells = ap answer_case same ∙ place_same r ∙ ap place_case h.place

  pub value_low : LowPlace w
  value_low = low_case told w tells

  pub value_into : {c : ℕ} → c ≡ code (answer_case w) → ValueInto s position x y c
  value_into q =
      let coded = case_coded told w tells q in
      record {
        coded = coded;
        back = ap decoded_place coded.back ∙ place_back (place_of s a) range;
        scratch = h.scratch;
      }

-- ## Two names compared

pub names-compared : (x y : List ℕ) (c : Compared) (t : Bool) {r : ℕ} → ComparedAs x y c → c.same ≡ t →
    r ≡ 2 * c.pairs + cond t 1 0 → NamesCompared x y r
names-compared x y c t {r} h e q =
    let equal = sym h.same ∙ e in
    let half = go t (q ∙ ap (λ (n : ℕ). 2 * n + cond t 1 0) h.pairs) in
    record {
      code = q ∙ (λ i. 2 * h.pairs i + cond (sym equal i) 1 0);
      pairs = half.0;
      same = half.1 ∙ sym equal;
    }
  where
    go : (t : Bool) → r ≡ 2 * pairs x y + cond t 1 0 → (r / 2 ≡ pairs x y) × (eqb (r % 2) 1 ≡ t)
    go true k = (omega (arith, k), eq-eqb (r % 2) 1 (omega (arith, k)))
    go false k = (omega (arith, k), ne_eqb (r % 2) 1 (λ z. absurd (omega (arith, k, z))))
