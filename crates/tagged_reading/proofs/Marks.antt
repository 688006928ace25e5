-- What is read of a tagged attribute does not look at joint marks: entries hold texts alone, so it is the same for two
-- lists that are equal but for marks.
use mathlib.Core.Path.{◌≡◌, refl, ap, ◌∙◌, sym, subst}
use mathlib.Core.Bool.{cond}
use mathlib.Core.List.{List, [], ◌∷◌}
use Prim.Native.Nat.{ℕ, ◌+◌}
use lib.Dec.{ltb}
use Rattle.token_list.specs.Byte.{COMMA, EQUALS}
use Rattle.token_list.specs.Check as list
use Rattle.token_list.specs.Stream.{Trees, end, leaf, group}
use Rattle.token_list.specs.Marks.{unmarked, stream_of, EqualButMarks}
use Rattle.token_list.proofs.Marks.{size-unmarked, same-stream, same_check}
use Rattle.reading.specs.Token.{is_ident, is_literal, is_punct, is_word, is_end, group_size}
use Rattle.tagged_reading.specs.Marks.{TaggedAlike}
use Rattle.tagged_reading.specs.Role as role
use Rattle.tagged_reading.specs.Role.{others}
use Rattle.tagged_reading.specs.Entry.{Entry, tag, property}
use Rattle.tagged_reading.specs.Reading.{none, read, refused, adding, entries, keyed, valued, separated}
use Rattle.tagged_reading.specs.Reading.{FIRST_ENTRY, before, list_after, attribute, tagged}
use Rattle.tagged_reading.specs.Answer.{framed, answer}
use Rattle.tagged_reading.specs.Promise.{Assignment}
use Rattle.tagged_reading.proofs.Told.{AllTold, tagged_told}
use Rattle.tagged_reading.proofs.Complete.{obeys_complete}

mutual
  entries_unmarked : (row : ℕ) (ts : Trees) → entries row (unmarked ts) ≡ entries row ts
  entries_unmarked row end = refl
  entries_unmarked row (group d ts us) = refl
  entries_unmarked row (leaf q us) = λ i. cond (is_ident q) (keyed_unmarked row q.text us i) (refused 29 row)

  keyed_unmarked : (row : ℕ) (k : List ℕ) (ts : Trees) → keyed row k (unmarked ts) ≡ keyed row k ts
  keyed_unmarked row k end = refl
  keyed_unmarked row k (group d ts us) = refl
  keyed_unmarked row k (leaf p us) = λ i.
      cond (is_punct COMMA p) (adding (tag k ∷ []) (role.tag ∷ role.other ∷ []) (entries_unmarked (row + 2) us i))
      (cond (is_punct EQUALS p) (valued-unmarked row k us i) (refused 29 row))

  valued-unmarked : (row : ℕ) (k : List ℕ) (ts : Trees) → valued row k (unmarked ts) ≡ valued row k ts
  valued-unmarked row k end = refl
  valued-unmarked row k (group d ts us) =
      ap (λ (n : ℕ). adding [] (others (2 + (1 + n + 1))) (entries (row + (2 + (1 + n + 1))) (unmarked us)))
      (size-unmarked ts)
      ∙ ap (adding [] (others (2 + group_size ts))) (entries_unmarked (row + (2 + group_size ts)) us)
  valued-unmarked row k (leaf v us) = λ i.
      cond (is_literal v) (separated_unmarked row (property k v.text) us i)
      (adding [] (others 3) (entries_unmarked (row + 3) us i))

  separated_unmarked : (row : ℕ) (e : Entry) (ts : Trees) → separated row e (unmarked ts) ≡ separated row e ts
  separated_unmarked row e end = refl
  separated_unmarked row e (group d ts us) = refl
  separated_unmarked row e (leaf c us) = λ i.
      cond (is_punct COMMA c)
      (adding (e ∷ []) (role.key ∷ role.other ∷ role.value ∷ role.other ∷ []) (entries_unmarked (row + 4) us i))
      (refused 28 (row + 3))

list_after-unmarked : (ts : Trees) → list_after (unmarked ts) ≡ list_after ts
list_after-unmarked end = refl
list_after-unmarked (leaf q us) = refl
list_after-unmarked (group d ts us) = λ i.
    adding [] (others FIRST_ENTRY) (before (1 + size-unmarked us i + 1) (entries_unmarked FIRST_ENTRY ts i))

attribute-unmarked : (prefix : List ℕ) (ts : Trees) → attribute prefix (unmarked ts) ≡ attribute prefix ts
attribute-unmarked prefix end = refl
attribute-unmarked prefix (group d ts us) = refl
attribute-unmarked prefix (leaf q us) = λ i. cond (is_word prefix q) (list_after-unmarked us i) none

is_end-unmarked : (ts : Trees) → is_end (unmarked ts) ≡ is_end ts
is_end-unmarked end = refl
is_end-unmarked (leaf q us) = refl
is_end-unmarked (group d ts us) = refl

pub tagged-unmarked : (prefix : List ℕ) (ts : Trees) → tagged prefix (unmarked ts) ≡ tagged prefix ts
tagged-unmarked prefix end = refl
tagged-unmarked prefix (leaf q us) = refl
tagged-unmarked prefix (group d ts us) = λ i.
    cond (is_end-unmarked us i) (attribute-unmarked prefix ts i) (refused 31 (1 + size-unmarked ts i + 1))

-- ## Lists

module _ (prefix : List ℕ) {s t : List ℕ} (e : EqualButMarks s t) where
  tagged-same : tagged prefix (stream_of s) ≡ tagged prefix (stream_of t)
  tagged-same =
      sym (tagged-unmarked prefix (stream_of s)) ∙ ap (tagged prefix) (same-stream e)
      ∙ tagged-unmarked prefix (stream_of t)

  pub answers_same : (n : ℕ) → answer prefix s n ≡ answer prefix t n
  unfolding answer
  answers_same n =
      ap (framed prefix s n) e.one.1
      ∙ ap (cond (ltb n e.one.0) (refused 8 list.END)) tagged-same
      ∙ sym (ap (framed prefix t n) (same_check e))

  -- the grammar does not look at marks either
  pub assignments_same : (roles : List ℕ) → Assignment prefix s roles → Assignment prefix t roles
  assignments_same roles o =
      let a = obeys_complete prefix o in
      go (subst (AllTold prefix (stream_of t)) (sym tagged-same ∙ a.1) (tagged_told prefix (stream_of t)))
    where
      go : {es : List Entry} → AllTold prefix (stream_of t) (read es roles) → Assignment prefix t roles
      go (AllTold.reads qs k) = k.obeys

  pub tagged_alike : TaggedAlike prefix s t
  tagged_alike = record { answers = answers_same; assignments = assignments_same }
