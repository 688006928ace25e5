-- The parameters between `<` and `>`, and the answers of the writers.
use mathlib.Core.Path.{◌≡◌, refl, ap, ◌∙◌, sym, subst}
use mathlib.Core.Bool.{Bool, true, false}
use mathlib.Core.List.{List, [], ◌∷◌, ◌++◌, map, append-nil}
use Prim.Native.Nat.{ℕ, suc, ◌≤◌}
use native.Mathlib.Omega.{arith}
use borrow.Author.Tests.{ne_eqb}
use lib.Dec.{eqb}
use Rattle.std.specs.Prelude.{Result, Ok, Err}
use lib.ListN.{length, take}
use lib.Seq.{length-take-le}
use Rattle.token_list.specs.Byte.{LF, LESS, GREATER}
use Rattle.token_list.specs.Row.{Row, Lines, tail, line, lines, byte}
use Rattle.token_list.specs.Rows.{punct, list_of}
use Rattle.token_list.specs.Check as list
use Rattle.token_list.specs.declared.check.Refusal.{Refusal}
use Rattle.token_list.specs.Stream.{Trees}
use Rattle.token_list.specs.Layout.{marked}
use Rattle.token_list.specs.Contract.{start_of}
use Rattle.token_list.specs.declared.check.Cursor.{Cursor}
use Rattle.parse.specs.Contract.{stream}
use Rattle.reading.specs.Reading.{item}
use Rattle.token_list.proofs.Texts.{chosen, passed_over}
use Rattle.output.specs.Contract.{Put, Printed}
use Rattle.output.specs.Answer.{Answer, fitted, answer_text}
use Rattle.output.specs.Written.{WrittenAs, at_most}
use Rattle.output.proofs.Answers.{written_as, fitted_wrote}
use Rattle.reading.specs.Declaration.{Parameter, Generics, without, Declaration}
use Rattle.reading.specs.Took.{Took, took}
use Rattle.writing.specs.Names.{line_names, names_of}
use Rattle.writing.specs.Generics.{parted, angled_rows, sent_parameter, generics_rows, added_lifetime, added_type}
use Rattle.writing.specs.Answer.{Writer, impl_generics_lem, type_generics_lem, with_additional_lem, text, item_answer}
use Rattle.writing.specs.Answer.{answer}
use Rattle.writing.specs.Answer.{full_answer, MOST, most_added, Fits}
use Rattle.writing.proofs.Written.{still_first, parted_append}
use Rattle.writing.proofs.Refusals.{write_refusal, write_read}
use Rattle.writing.proofs.Lengths.{type_fits, additional_fits, added_most}
use Rattle.generate.specs.Contract.{Appended, Built, shaped, goes_out, parameters_by, writer, Answered}
use Rattle.generate.specs.Contract.{Reported}
use Rattle.generate.specs.declared.stream_builder.ListBuilder.{ListBuilder}
use Rattle.generate.proofs.Builds.{then, further_built}

-- ## Between the angles

-- an empty text alone has no names
first_still : (t : List ℕ) → still_first true (map added_lifetime (names_of t)) ≡ eqb (length t) 0
first_still [] = refl
first_still (b ∷ bs) = go (eqb b LF) (lines bs) ∙ sym (ne_eqb (suc (length bs)) 0 (λ e. omega (arith, e)))
  where
    go : (lf : Bool) (ls : Lines) → still_first true (map added_lifetime (line_names (byte lf b ls))) ≡ false
    go true ls = refl
    go false (tail []) = refl
    go false (tail (x ∷ xs)) = refl
    go false (line l ls) = refl

shaped-sent : (names : Bool) (ps : List Parameter)
    → map (goes_out names) ps ≡ map (shaped names) (map sent_parameter ps)
shaped-sent names [] = refl
shaped-sent names (p ∷ ps) = ap (λ (qs : List Parameter). goes_out names p ∷ qs) (shaped-sent names ps)

pub angled : {b c d e r : ListBuilder} {first : Bool} (names : Bool) (ls ts : List ℕ)
    (ps : List Parameter) → first ≡ eqb (length ls) 0 → Appended b c (punct LESS ∷ [])
    → Appended c d (parted true (map added_lifetime (names_of ls)))
    → Appended d e (parted first (map (goes_out names) ps ++ map added_type (names_of ts)))
    → Appended e r (punct GREATER ∷ [])
    → Appended b r (angled_rows (parameters_by names ls ts (map sent_parameter ps)))
angled {b} {r = r} {first = first} names ls ts ps f less lifetimes others greater =
    let front = map added_lifetime (names_of ls) in
    let back = map (goes_out names) ps ++ map added_type (names_of ts) in
    let still : first ≡ still_first true front = f ∙ sym (first_still ls) in
    let rows : parted true front ++ parted first back ≡ parted true (front ++ back) =
    ap (λ (x : Bool). parted true front ++ parted x back) still ∙ sym (parted_append true front back) in
    let sent = ap (λ (qs : List Parameter). parted true (front ++ (qs ++ map added_type (names_of ts))))
    (shaped-sent names ps) in
    subst (λ (rs : List Row). Appended b r (punct LESS ∷ rs ++ punct GREATER ∷ [])) (rows ∙ sent)
    (then less (then (then lifetimes others) greater))

-- ## Generics

-- none stand there
pub none_put : {v w : Bool} {k : List ℕ} {r : ListBuilder} (f : List Parameter → List Parameter) {g : Generics}
    → v ≡ w → g ≡ without → Built v k r [] → Put k r.out.now 0 r.built.bytes (list_of w (generics_rows f g))
none_put {v} {k = k} {r} f {g} w e h =
    subst (λ (x : Bool). Put k r.out.now 0 r.built.bytes (list_of x (generics_rows f g))) w
    (subst (λ (g : Generics). Put k r.out.now 0 r.built.bytes (list_of v (generics_rows f g))) (sym e) h.put)

pub some_put : {v w : Bool} {k : List ℕ} {b r : ListBuilder} (f : List Parameter → List Parameter)
    {g : Generics} (ps : List Parameter) → v ≡ w → g ≡ Generics.angled ps → Built v k b []
    → Appended b r (angled_rows (f (map sent_parameter ps))) → Put k r.out.now 0 r.built.bytes (list_of w (generics_rows f g))
some_put {v} {k = k} {r = r} f {g} ps w e h a =
    subst (λ (x : Bool). Put k r.out.now 0 r.built.bytes (list_of x (generics_rows f g))) w
    (subst (λ (g : Generics). Put k r.out.now 0 r.built.bytes (list_of v (generics_rows f g))) (sym e)
    (further_built h a).put)

-- ## A declaration that was read

module _ (w : Writer) (s : List ℕ) (m : ℕ) {n : ℕ} (passed : list.passed n ≡ list.check s) {c : Cursor}
    (start : c ≡ start_of s) where
  pub read_answer : {t : Took Declaration} → item c.row (stream s c) ≡ t
      → answer w s m ≡ fitted m (item_answer (marked s) w t)
  read_answer e =
      write_read w s m (sym passed)
      ∙ ap (λ (t : Took Declaration). fitted m (item_answer (marked s) w t))
      (ap (λ (x : Cursor). item x.row (stream s x)) (sym start) ∙ e)

  module _ {d : Declaration} {rs : List ℕ} {us : Trees} (e : item c.row (stream s c) ≡ took d rs us) where
    pub right_answer : w.right ≡ true → answer w s m ≡ fitted m (Answer.wrote (text (marked s) w d))
    right_answer r = read_answer e ∙ ap (fitted m) (chosen _ _ _ r)

    pub wrong_answer : w.right ≡ false → answer w s m ≡ Answer.refused 30 list.END
    wrong_answer r = read_answer e ∙ ap (fitted m) (passed_over _ _ _ r)

-- ## The three writers

as_they_stand : (ps : List Parameter) → map (shaped false) ps ≡ ps
as_they_stand [] = refl
as_they_stand (p ∷ ps) = ap (λ (qs : List Parameter). p ∷ qs) (as_they_stand ps)

pub impl_writer : writer false [] [] ≡ impl_generics_lem
impl_writer = λ i. record {
  parameters = λ ps. (append-nil (map (shaped false) ps) ∙ as_they_stand ps) i;
  right = true;
}

pub additional-writer : (ls ts : List ℕ) → writer false ls ts ≡ with_additional_lem ls ts
additional-writer ls ts = λ i. record {
  parameters = λ ps. map added_lifetime (names_of ls) ++ (as_they_stand ps i ++ map added_type (names_of ts));
  right = (with_additional_lem ls ts).right;
}

pub type-writer : writer true [] [] ≡ type_generics_lem
type-writer = λ i. record { parameters = λ ps. append-nil (map (shaped true) ps) i; right = true }

pub answered : {s x y : List ℕ} {r : Result ℕ Refusal} {v w : Writer} → v ≡ w → WrittenAs x y (answer v s (length x)) r
    → Answered w s x y r
answered {s} {x} {w = w} e h =
    record {
      answered = written_as (ap (λ (w : Writer). answer w s (length x)) (sym e)) h;
      refusal = write_refusal w s (length x);
    }

-- ## What is printed

-- no text that is printed is longer
answer_length : (w : Writer) {most : ℕ} {s x y : List ℕ} → Fits w most s (length x) → 64 ≤ most → (r : Result ℕ Refusal)
    → WrittenAs x y (answer w s (length x)) r → at_most r ≤ most
unfolding answer
answer_length w {s = s} {x} {y} f l (Ok n) h =
    let same = fitted_wrote (length x) (full_answer w s) (sym h.answer) in
    omega (arith, f.longest (take n y) same, length-take-le n y h.room)
answer_length w f l (Err r) h = l

reported : (w : Writer) {most more n : ℕ} {s x y z : List ℕ} → Fits w most s (length x) → most ≤ more → 64 ≤ most
    → (r : Result ℕ Refusal) → WrittenAs x z (answer w s (length x)) r → n ≤ at_most r
    → Printed x y n (answer_text (answer w s (length x))) → Reported w more s x y n
reported w {s = s} {x} f l m r h few p =
    record {
      text = p;
      roomy = λ k. rw (f.room (omega arith)) at p;
      short = omega (arith, answer_length w f m r h);
      refusal = write_refusal w s (length x);
    }

pub reported_type : {n : ℕ} (s x : List ℕ) {y z : List ℕ} (r : Result ℕ Refusal) → Answered type_generics_lem s x z r
    → n ≤ at_most r
    → Printed x y n (answer_text (answer type_generics_lem s (length x))) → Reported type_generics_lem MOST s x y n
reported_type s x r h few p =
    reported type_generics_lem (type_fits s (length x)) (omega arith) (omega arith) r h.answered few p

pub reported_additional : {n : ℕ} (ls ts s x : List ℕ) {y z : List ℕ} (r : Result ℕ Refusal)
    → Answered (with_additional_lem ls ts) s x z r → n ≤ at_most r
    → Printed x y n (answer_text (answer (with_additional_lem ls ts) s (length x)))
    → Reported (with_additional_lem ls ts) (most_added (length ls) (length ts)) s x y n
reported_additional ls ts s x r h few p =
    let w = with_additional_lem ls ts in
    reported w (additional_fits ls ts s (length x)) (added_most ls ts) (omega arith) r h.answered few p
