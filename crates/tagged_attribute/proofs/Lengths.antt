-- No text is longer than MOST: an entry's line has the texts of its rows, and at most 11 bytes more for each row.
use mathlib.Core.Path.{◌≡◌, subst}
use mathlib.Core.Bool.{Bool, true, false, cond}
use mathlib.Core.List.{List, [], ◌∷◌, ◌++◌}
use Prim.Native.Nat.{ℕ, ◌+◌, ◌*◌, ◌≤◌}
use native.Mathlib.Omega.{arith}
use lib.ListN.{length, length-append}
use Rattle.token_list.specs.Byte.{bytes, COMMA, EQUALS}
use Rattle.token_list.specs.Row.{Row}
use Rattle.token_list.specs.Stream.{Trees, end, leaf, group, size}
use Rattle.token_list.proofs.Bounds.{texts, bounds}
use Rattle.token_list.proofs.Passed.{passed_list}
use Rattle.reading.specs.Token.{is_ident, is_literal, is_punct, is_word, is_end, group_size}
use Rattle.tagged_reading.specs.Role.{others}
use Rattle.tagged_reading.specs.Entry.{Entry, tag, property}
use Rattle.tagged_reading.specs.Reading.{Answer, none, read, refused, adding, before, entries, keyed, valued, separated}
use Rattle.tagged_reading.specs.Reading.{FIRST_ENTRY, tagged}
use Rattle.tagged_reading.specs.Answer.{answer}
use Rattle.tagged_reading.proofs.Promise.{read_passed}
use Rattle.tagged_attribute.specs.Contract.{listed}
use Rattle.tagged_attribute.specs.Listing.{entry_line, entry_lines, NAMES, MOST}

-- what a stream has room for
abbrev room : Trees → ℕ
room ts = texts ts + 11 * size ts

data Fitting (n : ℕ) : Answer → Type 0 where
  absent : Fitting n none
  reads : {es : List Entry} {rs : List ℕ} → length (entry_lines es) ≤ n → Fitting n (read es rs)
  refuses : {m p : ℕ} → Fitting n (refused m p)

choice : {n : ℕ} (t : Bool) {x y : Answer} → Fitting n x → Fitting n y → Fitting n (cond t x y)
choice true h k = h
choice false h k = k

tag_length : (t : List ℕ) → length (entry_line (tag t)) ≡ 7 + length t
unfolding entry_line
tag_length t = omega (arith, length-append t (bytes " -\n"))

property_length : (k v : List ℕ) → length (entry_line (property k v)) ≡ 11 + length k + length v
unfolding entry_line
property_length k v =
    omega (arith, length-append k (bytes " " ++ (v ++ bytes "\n")), length-append v (bytes "\n"))

-- an entry with room for its line, and what follows
one_more : {n m : ℕ} (e : Entry) (rs : List ℕ) {a : Answer} → length (entry_line e) + m ≤ n → Fitting m a
    → Fitting n (adding (e ∷ []) rs a)
one_more e rs h absent = absent
one_more e rs h (reads {es = es} k) =
    reads {es = e ∷ es} (omega (arith, length-append (entry_line e) (entry_lines es)))
one_more e rs h refuses = refuses

-- rows that add nothing
passed_by : {n m : ℕ} (rs : List ℕ) {a : Answer} → m ≤ n → Fitting m a → Fitting n (adding [] rs a)
passed_by rs h absent = absent
passed_by rs h (reads {es = es} k) = reads {es = es} (omega arith)
passed_by rs h refuses = refuses

nothing_left : Fitting 0 (read [] [])
nothing_left = reads {es = []} (omega arith)

mutual
  entries_fit : (row : ℕ) (ts : Trees) → Fitting (room ts) (entries row ts)
  entries_fit row end = nothing_left
  entries_fit row (group d ts us) = refuses
  entries_fit row (leaf q us) = choice (is_ident q) (keyed_fit row q us) refuses

  keyed_fit : (row : ℕ) (q : Row) (us : Trees) → Fitting (room (leaf q us)) (keyed row q.text us)
  keyed_fit row q end =
      one_more (tag q.text) (20 ∷ []) (omega (arith, tag_length q.text)) nothing_left
  keyed_fit row q (group d ts us) = refuses
  keyed_fit row q (leaf p us) =
      choice (is_punct COMMA p)
      (one_more (tag q.text) (20 ∷ 23 ∷ []) (omega (arith, tag_length q.text)) (entries_fit (row + 2) us))
      (choice (is_punct EQUALS p) (valued_fit row q p us) refuses)

  valued_fit : (row : ℕ) (q e : Row) (us : Trees) → Fitting (room (leaf q (leaf e us))) (valued row q.text us)
  valued_fit row q e end = passed_by (others 2) (omega arith) nothing_left
  valued_fit row q e (group d ts us) =
      passed_by (others (2 + group_size ts)) (omega arith) (entries_fit (row + (2 + group_size ts)) us)
  valued_fit row q e (leaf v us) =
      choice (is_literal v) (separated_fit row q e v us) (passed_by (others 3) (omega arith) (entries_fit (row + 3) us))

  separated_fit : (row : ℕ) (q e v : Row) (us : Trees)
      → Fitting (room (leaf q (leaf e (leaf v us)))) (separated row (property q.text v.text) us)
  separated_fit row q e v end =
      one_more (property q.text v.text) (21 ∷ 23 ∷ 22 ∷ [])
      (omega (arith, property_length q.text v.text)) nothing_left
  separated_fit row q e v (group d ts us) = refuses
  separated_fit row q e v (leaf c us) =
      choice (is_punct COMMA c)
      (one_more (property q.text v.text) (21 ∷ 23 ∷ 22 ∷ 23 ∷ [])
      (omega (arith, property_length q.text v.text)) (entries_fit (row + 4) us))
      refuses

before_fit : {n m : ℕ} (k : ℕ) {a : Answer} → m ≤ n → Fitting m a → Fitting n (before k a)
before_fit k h absent = absent
before_fit k h (reads {es = es} l) = reads {es = es} (omega arith)
before_fit k h refuses = refuses

tagged_fit : (prefix : List ℕ) (ts : Trees) → Fitting (room ts) (tagged prefix ts)
tagged_fit prefix end = refuses
tagged_fit prefix (leaf q us) = refuses
tagged_fit prefix (group d end us) = choice (is_end us) absent refuses
tagged_fit prefix (group d (group e ts vs) us) = choice (is_end us) absent refuses
tagged_fit prefix (group d (leaf q end) us) = choice (is_end us) (choice (is_word prefix q) absent absent) refuses
tagged_fit prefix (group d (leaf q (leaf p vs)) us) =
    choice (is_end us) (choice (is_word prefix q) absent absent) refuses
tagged_fit prefix (group d (leaf q (group e ts vs)) us) =
    choice (is_end us)
    (choice (is_word prefix q)
    (passed_by {n = room (group d (leaf q (group e ts vs)) us)} {m = room ts} (others FIRST_ENTRY) (omega arith)
    (before_fit (1 + size vs + 1) (omega arith) (entries_fit FIRST_ENTRY ts)))
    absent)
    refuses

-- the lines of what is read of a list that passed
pub lines-short : (prefix s : List ℕ) (n : ℕ) (es : List Entry) (rs : List ℕ) → answer prefix s n ≡ read es rs
    → length (NAMES ++ entry_lines es) ≤ MOST
lines-short prefix s n es rs e =
    let p = read_passed prefix s n es rs e in
    let b = bounds s p.1 in
    let fits = go (subst (Fitting (room (listed s))) p.2 (tagged_fit prefix (listed s))) in
    omega (arith, fits, b.texts, b.bytes, b.rows, (passed_list s p.0 p.1).size)
  where
    go : {n : ℕ} {es : List Entry} {rs : List ℕ} → Fitting n (read es rs) → length (entry_lines es) ≤ n
    go (reads h) = h
