-- Points of a stream, and answers, aside from joint marks: two lists that are equal but for marks are read alike.
use mathlib.Core.Path.{◌≡◌, refl, ap, ◌∙◌, sym}
use mathlib.Core.Bool.{Bool, true, false, cond}
use mathlib.Core.List.{List, ◌++◌, map}
use Prim.Native.Nat.{ℕ, zero, suc}
use lib.Dec.{ltb}
use lib.ListN.{replicate}
use Rattle.token_list.specs.Check as list
use Rattle.token_list.specs.Stream.{Trees, end, leaf, group}
use Rattle.token_list.specs.Marks.{unmarked, stream_of, EqualButMarks}
use Rattle.token_list.proofs.Marks.{size-unmarked, same-stream, same_check}
use Rattle.reading.specs.Role as role
use Rattle.reading.specs.Declaration.{Declaration}
use Rattle.reading.specs.Took.{Took, took, stopped, Reader, Point, past_taken, beyond}
use Rattle.reading.specs.Reading as r
use Rattle.reading.specs.Place as place
use Rattle.reading.specs.Place.{VariantHead}
use Rattle.reading.specs.Answer.{framed, Answer, declared, refused, item_answer, answer, buffer}
use Rattle.reading.specs.Marks.{unmarked_declaration, unmarked_took, unmarked_answer, unmarked_point}
use Rattle.reading.proofs.ReadingMarks.{Unmarking, bind, at_once, word_unmarking, attributes_unmarking}
use Rattle.reading.proofs.ReadingMarks.{visibility_unmarking, named!_unmarking, data_type_unmarking}
use Rattle.reading.proofs.ReadingMarks.{generics_unmarking, clause_unmarking, variant_fields_unmarking}
use Rattle.reading.proofs.ReadingMarks.{variant_unmarking, item_unmarking}

-- ## Points

pub beyond-unmarked : {A : Type 0} {f : A → A} {m : Reader A} → Unmarking f m → (x : Point) →
    beyond m (unmarked_point x) ≡ unmarked_point (beyond m x)
beyond-unmarked {A} {f} {m} e x =
    ap (past_taken (unmarked_point x)) (e x.row x.stream).path ∙ go (m x.row x.stream)
  where
    go : (t : Took A) → past_taken (unmarked_point x) (unmarked_took f t) ≡ unmarked_point (past_taken x t)
    go (took a rs us) = refl
    go (stopped w n p) = refl

-- the same of one more reader
further : {A : Type 0} {f : A → A} {m : Reader A} → Unmarking f m → {y : Point} (x : Point) → y ≡ unmarked_point x →
    beyond m y ≡ unmarked_point (beyond m x)
further {m = m} e x p = ap (beyond m) p ∙ beyond-unmarked e x

pub body_at-unmarked : (x : Point) → place.body_at (unmarked_point x) ≡ unmarked_point (place.body_at x)
body_at-unmarked x =
    further clause_unmarking (place.clause_at x)
    (further generics_unmarking (place.generics_at x)
    (further data_type_unmarking (place.start_at x)
    (further visibility_unmarking (place.visibility_at x) (beyond-unmarked attributes_unmarking x))))

pub inside-unmarked : (x : Point) → place.inside (unmarked_point x) ≡ unmarked_point (place.inside x)
inside-unmarked x = go x.stream
  where
    go : (ts : Trees) → place.inside_of x.row (unmarked ts) ≡ unmarked_point (place.inside_of x.row ts)
    go end = refl
    go (leaf q us) = refl
    go (group d ts us) = refl

pub variant_at-unmarked : (k : ℕ) (x : Point)
    → place.variant_at k (unmarked_point x) ≡ unmarked_point (place.variant_at k x)
variant_at-unmarked zero x = refl
variant_at-unmarked (suc k) x =
    ap (place.variant_at k) (beyond-unmarked variant_unmarking x) ∙ variant_at-unmarked k (beyond r.variant x)

abbrev pub unmarked_head : VariantHead → VariantHead
unmarked_head h = record { attributes = map unmarked h.attributes; name = h.name }

pub variant_head_unmarking : Unmarking unmarked_head place.variant_head
variant_head_unmarking =
    bind _ attributes_unmarking (λ a. bind _ (word_unmarking role.variant-name)
    (λ w. bind _ (named!_unmarking w) (λ n row ts. at_once)))

pub variant_name_at-unmarked : (x : Point)
    → place.variant_name_at (unmarked_point x) ≡ unmarked_point (place.variant_name_at x)
variant_name_at-unmarked x = beyond-unmarked attributes_unmarking x

pub equals_at-unmarked : (x : Point) → place.equals_at (unmarked_point x) ≡ unmarked_point (place.equals_at x)
equals_at-unmarked x = further variant_fields_unmarking (place.group_at x) (beyond-unmarked variant_head_unmarking x)

-- ## Lists

module _ {s t : List ℕ} (e : EqualButMarks s t) where
  pub item-same : unmarked_took unmarked_declaration (r.item 0 (stream_of s))
      ≡ unmarked_took unmarked_declaration (r.item 0 (stream_of t))
  item-same =
      sym (item_unmarking 0 (stream_of s)).path ∙ ap (r.item 0) (same-stream e) ∙ (item_unmarking 0 (stream_of t)).path

  -- where what is made of the items is the same by f, so are the answers
  pub framed-same : {A B : Type 0} (f : A → B) (denied : ℕ → ℕ → A) (short : ℕ → Bool)
      (made other : Took Declaration → A)
      → f (made (r.item 0 (stream_of s))) ≡ f (other (r.item 0 (stream_of t)))
      → f (framed denied short made s (list.check s)) ≡ f (framed denied short other t (list.check t))
  framed-same f denied short made other h =
      ap (λ (a : list.Answer). f (framed denied short made s a)) e.one.1 ∙ go (short e.one.0)
      ∙ sym (ap (λ (a : list.Answer). f (framed denied short other t a)) (same_check e))
    where
      go : (b : Bool) → f (cond b (denied 8 list.END) (made (r.item 0 (stream_of s))))
          ≡ f (cond b (denied 8 list.END) (other (r.item 0 (stream_of t))))
      go true = refl
      go false = h

  -- the declarations are the same aside from marks, and the roles and refusals are the same
  pub answers_alike : (n : ℕ) → unmarked_answer (answer s n) ≡ unmarked_answer (answer t n)
  unfolding answer
  answers_alike n = framed-same unmarked_answer refused (λ rows. ltb n rows) item_answer item_answer
      (made (r.item 0 (stream_of s)) ∙ ap item_answer item-same ∙ sym (made (r.item 0 (stream_of t))))
    where
      made : (u : Took Declaration)
          → unmarked_answer (item_answer u) ≡ item_answer (unmarked_took unmarked_declaration u)
      made (took d rs us) = ap (λ (k : ℕ). declared (unmarked_declaration d) (rs ++ replicate k role.left_over))
          (sym (size-unmarked us))
      made (stopped w m p) = refl

  pub buffers_same : (n : ℕ) → buffer n (answer s n) ≡ buffer n (answer t n)
  buffers_same n = told (answer s n) ∙ ap (buffer n) (answers_alike n) ∙ sym (told (answer t n))
    where
      told : (a : Answer) → buffer n a ≡ buffer n (unmarked_answer a)
      told (declared d rs) = refl
      told (refused m p) = refl

  pub refusals_same : (n m p : ℕ) → answer s n ≡ refused m p → answer t n ≡ refused m p
  refusals_same n m p h = told (answer t n) (sym (answers_alike n) ∙ ap unmarked_answer h)
    where
      told : (a : Answer) → unmarked_answer a ≡ refused m p → a ≡ refused m p
      told (declared d rs) q = cc
      told (refused k o) q = q
