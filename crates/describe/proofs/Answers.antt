-- Laws on the answers of the calls.
use mathlib.Core.Path.{◌≡◌, refl, ap, ◌∙◌, sym, subst, subst⁻¹}
use mathlib.Core.Logic.{inr, ⊎_elim}
use mathlib.Core.Bool.{true, false, ◌||◌, false≢true}
use mathlib.Core.List.{List}
use Prim.Native.Nat.{ℕ, ◌≤◌, ◌<◌}
use native.Mathlib.Omega.{arith}
use borrow.Author.Tests.{lt-ltb, le-ltb, le-leb}
use lib.IntN.{ℤ}
use lib.ListN.{length}
use lib.Seq.{slice, sets}
use Rattle.token_list.specs.Layout.{marked, first_row}
use Rattle.token_list.specs.Check as list
use lib.Dec.{ltb}
use Rattle.token_list.specs.Place.{OneRefusal}
use Rattle.token_list.specs.Stream.{at, row_start}
use Rattle.token_list.proofs.Columns.{offset_low}
use Rattle.token_list.proofs.Starts.{next_start}
use Rattle.reading.specs.Answer.{framed, read_number}
use Rattle.reading.specs.Place.{start, inside, body_at, value_row}
use Rattle.reading.proofs.Frame.{framed_cases}
use Rattle.reading.proofs.Places.{check_read, short_read, item_read, refusals}
use Rattle.token_list.specs.Text.{between}
use Rattle.token_list.specs.declared.check.Cursor.{Cursor}
use Rattle.token_list.specs.declared.check.Refusal.{Refusal}
use Rattle.token_list.specs.declared.stream.Token.{Token}
use Rattle.token_list.proofs.Bounds.{bounds}
use Rattle.token_list.proofs.Texts.{or_holds, chosen, passed_over}
use Rattle.output.specs.Contract.{Put}
use Rattle.output.specs.Answer as outputs
use Rattle.output.specs.Written.{WrittenAs}
use Rattle.output.specs.Writes.{Writes}
use Rattle.output.specs.declared.writer.Writer.{Writer}
use Rattle.output.proofs.Texts.{kept, shown}
use Rattle.output.proofs.Writers.{then}
use Rattle.output.proofs.Answers.{fitted_refused, written_refused, written_as, fits_not, fits}
use Rattle.reading.specs.Declaration as declaration
use Rattle.reading.specs.Token.{MAX_I64, worth}
use Rattle.reading.specs.Took.{Took, took, Cause, stopped, Point}
use Rattle.reading.specs.Reading.{item}
use Rattle.parse.specs.declared.variants.ValueAt.{ValueAt}
use Rattle.parse.specs.declared.variants.ValueAt.TheVariants as value_ats
use Rattle.describe.specs.Value.{SCRATCH_BYTES, negative_text, Answer, refused, body_value, value_answer}
use Rattle.describe.specs.Value.{variant_answer, item_answer, answer, scratch, value_text}
use Rattle.describe.specs.Numbers.{Fault, no_integer_lem, no_step_lem, name_again, number_again, fault_number, Numbers}
use Rattle.describe.specs.Numbers.{numbers, lacking, body_numbers, body_names, numbers_of}
use Rattle.describe.specs.Numbers.{fault_in, fault_place}
use Rattle.describe.specs.Listing as listing
use Rattle.parse.specs.Contract.{point, CursorAt}
use Rattle.describe.specs.Contract.{ValueAs, part, text_start, text_end, place_of, Placed, Begins, FaultsIn}
use Rattle.describe.specs.Contract.{ItemFaultsIn, FaultAs, faultless, lacks}
use Rattle.std.specs.Prelude.{Option, Some, None, Result, Ok, Err}
use Rattle.describe.specs.declared.value.ValuePlace.{ValuePlace}
use Rattle.describe.specs.declared.value.ValuePlace.TheVariants as places
use Rattle.describe.proofs.Worths.{part-front, negative_within, negative_length}
use Rattle.describe.proofs.Numbering.{distinct_numbers}

-- ## A value

abbrev inside_list : ℕ → ℕ → Result (Option ValuePlace) Refusal
inside_list a e = Ok (Some (places.InList a e))

module _ {s : List ℕ} {v : ValueAt} (x : Point) (w : declaration.Value) (k : ValueAs s x v w) where
  -- the value and its row, by the code's enum
  known : {u : ValueAt} → v ≡ u → ValueAs s x u w
  known e = subst (λ (u : ValueAt). ValueAs s x u w) e k

  module _ (u : declaration.Value) (e : w ≡ u) where
    answered : {a : Answer} → value_answer (value_row x u) u ≡ a → value_answer (value_row x w) w ≡ a
    answered q = ap (λ (y : declaration.Value). value_answer (value_row x y) y) e ∙ q

  pub placed_absent : (y : List ℕ) → v ≡ value_ats.Absent → Placed s y y (value_answer (value_row x w) w) (Ok None)
  placed_absent y e =
      let a = answered declaration.absent (known e).value refl in
      record {
        place = sym (ap (place_of s) a);
        text = sym (ap value_text a);
        range = tt;
        scratch = sym (ap (scratch y) a);
      }

  pub placed_literal : (y : List ℕ) (t : Token) (told : ℕ) → v ≡ value_ats.Literal t told → length s ≤ 65536
      → Placed s y y (value_answer (value_row x w) w) (Ok (Some (places.InList t.start t.end)))
  placed_literal y t told e short =
      let b = (known e).value in
      let row = value_row x w in
      let token = (known e).place.0 in
      let a = answered (declaration.literal b.0) b.2 refl in
      let same : value_row x w ≡ value_row x (declaration.literal b.0) = ap (value_row x) b.2 in
      let next = next_start s row (row_start s row) t.end refl token.end in
      let end : t.end ≡ text_end s row = omega (arith, next) in
      let here : inside_list t.start t.end ≡ inside_list (text_start s row) (text_end s row) =
      λ i. inside_list (token.start i) (end i) in
      let inside : part t.start t.end s ≡ b.0 = chosen _ _ _ (le-leb t.end (length s) b.1.within) ∙
      sym b.1.bytes in
      record {
        place = here ∙ ap (λ (n : ℕ). inside_list (text_start s n) (text_end s n)) same ∙ sym (ap (place_of s) a);
        text = inside ∙ sym (ap value_text a);
        range = (
          omega (arith, token.start, offset_low (marked s)),
          omega (arith, token.start, token.end.text),
          omega (arith, token.end.within, short),
        );
        scratch = sym (ap (scratch y) a);
      }

  pub placed_negative : {y z : List ℕ} {n r : ℕ} (t : Token) → v ≡ value_ats.Negative t →
      n ≡ worth (slice t.start t.end s) → n ≤ MAX_I64 → Put y z 0 r (negative_text n) → SCRATCH_BYTES ≤ length y
      → Placed s y z (value_answer (value_row x w) w) (Ok (Some (places.InScratch r)))
  placed_negative {y} {z} {n} {r} t e q h p room =
      let b = (known e).value in
      let m : n ≡ worth b.0 = q ∙ ap worth (sym b.1.bytes) in
      let a = answered (declaration.negative (worth b.0)) b.3 refl in
      let few = negative_within n h in
      let long : r ≡ length (negative_text (worth b.0)) =
      omega (arith, p.next, few, ap (λ (k : ℕ). length (negative_text k)) m) in
      let short : r ≤ SCRATCH_BYTES = omega (arith, p.next, few) in
      record {
        place = ap (λ (n : ℕ). Ok (Some (places.InScratch n))) long ∙ sym (ap (place_of s) a);
        text = part-front r z (omega (arith, kept p)) ∙ shown p (omega arith) ∙ ap negative_text m ∙ sym
            (ap value_text a);
        range = (omega (arith, p.next, negative_length n), short);
        scratch = p.bytes ∙ ap (λ (k : ℕ). sets y 0 (negative_text k)) m ∙ sym (ap (scratch y) a);
      }

module _ {s x y : List ℕ} {r : Result (Option ValuePlace) Refusal} where
  pub placed_as : {a b : Answer} → b ≡ a → Placed s x y a r → Placed s x y b r
  placed_as e p = subst⁻¹ (λ (z : Answer). Placed s x y z r) e p

pub placed_refused : {s x : List ℕ} {a : Answer} (r : Refusal) → a ≡ refused r.number r.place →
    Placed s x x a (Err r)
placed_refused {s} {x} r e =
    record {
      place = sym (ap (place_of s) e);
      text = sym (ap value_text e);
      range = tt;
      scratch = sym (ap (scratch x) e);
    }

module _ (s : List ℕ) (k n : ℕ) where
  abbrev framed_by : list.Answer → Answer
  framed_by a = framed refused (λ rows. ltb n SCRATCH_BYTES) (item_answer (start s) k) s a

  pub value-checked : {m p : ℕ} → list.check s ≡ list.Answer.refused m p → answer s k n ≡ refused m p
  unfolding answer
  value-checked e = ap framed_by e

  pub value-short : {r : ℕ} → list.check s ≡ list.Answer.passed r → n < 20 → answer s k n ≡ refused 8 list.END
  unfolding answer
  value-short e h = ap framed_by e ∙ chosen _ _ _ (lt-ltb n 20 h)

  pub value_read : {r : ℕ} → list.check s ≡ list.Answer.passed r → 20 ≤ n →
      answer s k n ≡ item_answer (start s) k (item 0 (at s (first_row s)).here)
  unfolding answer
  value_read e h = ap framed_by e ∙ passed_over _ _ _ (le-ltb n 20 h)

  pub value-refusal : (m p : ℕ) → answer s k n ≡ refused m p → OneRefusal read_number s m p
  unfolding answer
  value-refusal =
      refusals s refused (λ rows. ltb n SCRATCH_BYTES) (item_answer (start s) k) (λ n p m o q. ((cc), (cc))) plain
    where
      no-refusal : {B : Type 0} {m p : ℕ} (v : declaration.Value) → variant_answer (start s) k v ≡ refused m p → B
      no-refusal declaration.absent q = let z : ◌≡◌ {A = ℕ} 0 1 = cc in absurd (omega arith)
      no-refusal (declaration.literal t) q = let z : ◌≡◌ {A = ℕ} 0 1 = cc in absurd (omega arith)
      no-refusal (declaration.negative n) q = let z : ◌≡◌ {A = ℕ} 0 1 = cc in absurd (omega arith)

      plain : (m p : ℕ) (t : Took declaration.Declaration) → item_answer (start s) k t ≡ refused m p
          → (w : Cause) × (t ≡ stopped w m p)
      plain m p (took d rs us) q = no-refusal (body_value k d.body) q
      plain m p (stopped w i o) q = (w, (cc))

-- ## A listing

-- faults, by the code's enum
module _ {s : List ℕ} {place : Fault → ℕ → ℕ} where
  pub fault_none : {ns : Numbers} {r : Result Unit Refusal} → FaultAs s place ns r → r ≡ Ok tt →
      (zs : List ℤ) × (ns ≡ numbers zs)
  fault_none (faultless {zs = zs}) e = (zs, refl)
  fault_none (lacks h b) e = let z : ◌≡◌ {A = ℕ} 0 1 = cc in absurd (omega arith)

  fault_refused : {ns : Numbers} {r : Result Unit Refusal} {q : Refusal} → FaultAs s place ns r → r ≡ Err q →
      (f : Fault) × (k : ℕ) × (ns ≡ lacking f k) × (q ≡ record { number = fault_number f; place = place f k })
  fault_refused faultless e = let z : ◌≡◌ {A = ℕ} 0 1 = cc in absurd (omega arith)
  fault_refused {q = q} (lacks {f = f} {k = k} {r = o} h b) e =
      let same : o ≡ q = cc in
      (f, k, refl, sym same ∙ h)

  pub fault_rows : {ns : Numbers} {r : Result Unit Refusal} → FaultAs s place ns r → FaultsIn s place ns
  fault_rows faultless = tt
  fault_rows (lacks h b) = b

-- the body's lines after the others
pub listing-lines : {a b c d : Writer} (x : declaration.Declaration) (zs : List ℤ) →
    Writes a b (listing.item_lines x) →
    Writes b c (listing.numbered listing.parameter_line 0 (declaration.parameters_of x.generics))
    → Writes c d (listing.body_lines zs x.body) → Writes a d (listing.listing zs x)
unfolding listing.listing
listing-lines x zs p q t = then p (then q t)

-- a declaration d that begins at p, with its body at c, and its faults
module _ {s : List ℕ} {c : Cursor} (p : Point) (d : declaration.Declaration) (body : CursorAt s (body_at p) c)
    {r : Result Unit Refusal} (t : FaultAs s (fault_in (inside (point s c))) (numbers_of d) r) where
  pub item_faults : FaultsIn s (fault_place p) (numbers_of d)
  item_faults = subst (λ (y : Point). FaultsIn s (fault_in (inside y)) (numbers_of d)) body.here (fault_rows t)

  -- the answer in an output z
  module _ (z : List ℕ) where
    told : {ns : Numbers} → numbers_of d ≡ ns →
        outputs.fitted (length z) (listing.numbered_answer p d (numbers_of d)) ≡
        outputs.fitted (length z) (listing.numbered_answer p d ns)
    told e = ap (λ (ns : Numbers). outputs.fitted (length z) (listing.numbered_answer p d ns)) e

    pub faults_refused : (q : Refusal) → r ≡ Err q →
        WrittenAs z z (outputs.fitted (length z) (listing.numbered_answer p d (numbers_of d))) (Err q)
    faults_refused q e =
        let f = fault_refused t e in
        let place : fault_place p f.0 f.1 ≡ q.place =
        ap (λ (y : Point). fault_in (inside y) f.0 f.1) (sym body.here) ∙
        sym (ap (λ (w : Refusal). w.place) f.3) in
        let number : fault_number f.0 ≡ q.number = sym (ap (λ (w : Refusal). w.number) f.3) in
        written_refused (told f.2 ∙ (λ i. outputs.refused (number i) (place i)))

    -- once the listing was measured, in an output x that is then y
    module _ (e : r ≡ Ok tt) {x y : List ℕ} {m : ℕ}
        (q : (zs : List ℤ) → body_numbers d.body ≡ numbers zs → Put x y 0 m (listing.listing zs d)) where
      abbrev zs : List ℤ
      zs = (fault_none t e).0

      each : body_numbers d.body ≡ numbers zs
      each = distinct_numbers (body_names d.body) (body_numbers d.body) (fault_none t e).1

      pub measured-short : length z < m →
          WrittenAs z z (outputs.fitted (length z) (listing.numbered_answer p d (numbers_of d)))
          (Err (record { number = 8; place = list.END }))
      measured-short h = written_as (told (fault_none t e).1)
          (fits_not (listing.listing zs d) m (q zs each).next h)

      pub measured-fits : {w : List ℕ} {n : ℕ} →
          ((zs : List ℤ) → body_numbers d.body ≡ numbers zs → Put z w 0 n (listing.listing zs d)) → m ≤ length z →
          WrittenAs z w (outputs.fitted (length z) (listing.numbered_answer p d (numbers_of d))) (Ok n)
      measured-fits v h = written_as (told (fault_none t e).1)
          (fits (listing.listing zs d) m (q zs each).next h (v zs each))

module _ (s : List ℕ) (n : ℕ) where
  abbrev fitted_by : list.Answer → outputs.Answer
  fitted_by a = outputs.fitted n (framed outputs.refused (λ rows. false) (listing.item_answer (start s)) s a)

  pub listing-checked : {m p : ℕ} → list.check s ≡ list.Answer.refused m p → listing.answer s n ≡ outputs.refused m p
  unfolding listing.answer listing.full_answer
  listing-checked e = ap fitted_by e

  pub listing_read : {r : ℕ} → list.check s ≡ list.Answer.passed r →
      listing.answer s n ≡ outputs.fitted n (listing.item_answer (start s) (item 0 (at s (first_row s)).here))
  unfolding listing.answer listing.full_answer
  listing_read e = ap fitted_by e

  -- a refusal of the reading is one of the listing
  wider : {m p : ℕ} → OneRefusal read_number s m p → OneRefusal listing.listing_number s m p
  wider {m} o =
      record { one = or_holds (read_number m) (between 42 43 m || between 50 51 m) o.one; stands = o.stands }

  fault_one : (f : Fault) → listing.listing_number (fault_number f) ≡ true
  fault_one no_integer_lem = refl
  fault_one no_step_lem = refl
  fault_one name_again = refl
  fault_one number_again = refl

  module _ {rows : ℕ} (e : list.check s ≡ list.Answer.passed rows) where
    fault_refusal : (f : Fault) (p : ℕ) → Begins s p → OneRefusal listing.listing_number s (fault_number f) p
    fault_refusal f p h =
        let b = bounds s e in
        record { one = fault_one f; stands = inr (record { begins = h; low = omega (arith, h, b.begun, b.rows) }) }

    by_numbers : {m p : ℕ} (d : declaration.Declaration) (ns : Numbers) → FaultsIn s (fault_place (start s)) ns →
        listing.numbered_answer (start s) d ns ≡ outputs.refused m p → OneRefusal listing.listing_number s m p
    by_numbers d (numbers zs) h q = let z : ◌≡◌ {A = ℕ} 0 1 = cc in absurd (omega arith)
    by_numbers {m} {p} d (lacking f k) h q =
        let number : fault_number f ≡ m = cc in
        let place : fault_place (start s) f k ≡ p = cc in
        let told = fault_refusal f (fault_place (start s) f k) h in
        subst (λ (i : ℕ). OneRefusal listing.listing_number s i p) number
        (subst (OneRefusal listing.listing_number s (fault_number f)) place told)

    by_item : {m p : ℕ} (t : Took declaration.Declaration) → item 0 (at s (first_row s)).here ≡ t → ItemFaultsIn s t →
        listing.item_answer (start s) t ≡ outputs.refused m p → OneRefusal listing.listing_number s m p
    by_item (took d rs us) i h q = by_numbers d (numbers_of d) h q
    by_item {m} {p} (stopped w a o) i h q =
        let same : item 0 (at s (first_row s)).here ≡ stopped w m p = i ∙ (cc) in
        wider (item_read s rows m p e same)

  -- where the refusals of an item's numbers stand in rows
  pub listing-refusal : ((rows : ℕ) → list.check s ≡ list.Answer.passed rows →
      ItemFaultsIn s (item 0 (at s (first_row s)).here))
      → (m p : ℕ) → listing.answer s n ≡ outputs.refused m p → OneRefusal listing.listing_number s m p
  unfolding listing.answer listing.full_answer
  listing-refusal faults m p e =
      ⊎_elim full short
      (fitted_refused n (framed outputs.refused (λ rows. false) (listing.item_answer (start s)) s (list.check s)) e)
    where
      as-told : {i o : ℕ} → OneRefusal listing.listing_number s i o → outputs.refused i o ≡ outputs.refused m p
          → OneRefusal listing.listing_number s m p
      as-told {i} {o} h q =
          let number : i ≡ m = cc in
          let place : o ≡ p = cc in
          subst (λ (j : ℕ). OneRefusal listing.listing_number s j p) number
          (subst (OneRefusal listing.listing_number s i) place h)

      full : framed outputs.refused (λ rows. false) (listing.item_answer (start s)) s (list.check s)
          ≡ outputs.refused m p → OneRefusal listing.listing_number s m p
      full = framed_cases (λ (a : outputs.Answer). a ≡ outputs.refused m p → OneRefusal listing.listing_number s m p)
          outputs.refused (λ rows. false) (listing.item_answer (start s)) s
          (λ i o c. as-told (wider (check_read s i o c))) (λ rows c h. absurd (false≢true h))
          (λ rows c h t i. by_item c t i (subst (ItemFaultsIn s) i (faults rows c)))

      short : outputs.refused 8 list.END ≡ outputs.refused m p → OneRefusal listing.listing_number s m p
      short q = as-told (wider (short_read s)) q
