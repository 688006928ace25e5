-- Joint marks change neither the streams of rows nor how many rows there are.
use mathlib.Core.Path.{◌≡◌, refl, ap, ◌∙◌, sym}
use mathlib.Core.Bool.{Bool, true, false, cond}
use mathlib.Core.List.{List, [], ◌∷◌, map}
use Prim.Native.Nat.{ℕ, ◌+◌}
use lib.Dec.{eqb}
use lib.ListN.{length, length-map}
use Rattle.token_list.specs.Layout.{OPEN, CLOSE}
use Rattle.token_list.specs.Row.{Row, first}
use Rattle.token_list.specs.Check.{check, passed}
use Rattle.token_list.specs.Stream.{Trees, end, leaf, group, Streams, head, others, before, streams, size, at}
use Rattle.token_list.specs.Marks.{unmarked_row, unmarked_rows, unmarked, rows_of, stream_of, EqualButMarks}
use Rattle.token_list.proofs.Passed.{passed_list}

pub size-unmarked : (ts : Trees) → size (unmarked ts) ≡ size ts
size-unmarked end = refl
size-unmarked (leaf q us) = ap (λ (n : ℕ). 1 + n) (size-unmarked us)
size-unmarked (group d ts us) = λ i. 1 + size-unmarked ts i + 1 + size-unmarked us i

-- ## Streams

abbrev unmarked_streams : Streams → Streams
unmarked_streams st = record { here = unmarked st.here; outer = map unmarked st.outer }

head-unmarked : (ts : List Trees) → head (map unmarked ts) ≡ unmarked (head ts)
head-unmarked [] = refl
head-unmarked (t ∷ ts) = refl

others-unmarked : (ts : List Trees) → others (map unmarked ts) ≡ map unmarked (others ts)
others-unmarked [] = refl
others-unmarked (t ∷ ts) = refl

chosen_unmarked : (b : Bool) (x y : Streams) {u v : Streams} → u ≡ unmarked_streams x → v ≡ unmarked_streams y →
    cond b u v ≡ unmarked_streams (cond b x y)
chosen_unmarked true x y p q = p
chosen_unmarked false x y p q = q

before-unmarked : (q : Row) (st : Streams)
    → before (unmarked_row q) (unmarked_streams st) ≡ unmarked_streams (before q st)
unfolding before
before-unmarked q st =
    chosen_unmarked (eqb q.kind OPEN) _ _
    (λ i. record {
      here = group (first q.text) (unmarked st.here) (head-unmarked st.outer i);
      outer = others-unmarked st.outer i;
    })
    (chosen_unmarked (eqb q.kind CLOSE) _ _ refl refl)

streams-unmarked : (qs : List Row) → streams (unmarked_rows qs) ≡ unmarked_streams (streams qs)
streams-unmarked [] = refl
streams-unmarked (q ∷ qs) = ap (before (unmarked_row q)) (streams-unmarked qs) ∙ before-unmarked q (streams qs)

-- ## Lists that are equal but for marks

module _ {s t : List ℕ} (e : EqualButMarks s t) where
  pub same-stream : unmarked (stream_of s) ≡ unmarked (stream_of t)
  unfolding at
  same-stream = ap (λ (st : Streams). st.here)
      (sym (streams-unmarked (rows_of s)) ∙ ap streams e.rows ∙ streams-unmarked (rows_of t))

  same_count : e.other.0 ≡ e.one.0
  same_count =
      sym (passed_list t e.other.0 e.other.1).count ∙ sym (length-map (rows_of t) unmarked_row)
      ∙ sym (ap length e.rows) ∙ length-map (rows_of s) unmarked_row
      ∙ (passed_list s e.one.0 e.one.1).count

  pub same_check : check t ≡ passed e.one.0
  same_check = e.other.1 ∙ ap passed same_count
