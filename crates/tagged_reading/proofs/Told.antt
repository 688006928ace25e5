-- What the reading of entries tells: entries that the grammar admits, with a role for each row; or a refusal with 28 or
-- 29, at a row below a bound that the rows of the stream do not pass.
use mathlib.Core.Path.{◌≡◌, refl, ap, ◌∙◌, sym, subst⁻¹}
use mathlib.Core.Logic.{◌⊎◌, inl, inr}
use mathlib.Core.Bool.{Bool, true, false, cond, ◌||◌}
use mathlib.Core.List.{List, [], ◌∷◌, ◌++◌, append_assoc}
use Prim.Native.Nat.{ℕ, zero, suc, ◌+◌, ◌≤◌, ◌<◌}
use native.Mathlib.Numerals.{add-one}
use native.Mathlib.Omega.{arith}
use lib.Dec.{eqb}
use lib.ListN.{length, replicate, length-append, length-replicate}
use Rattle.token_list.specs.Byte.{COMMA, EQUALS}
use Rattle.token_list.specs.Text.{all, between}
use Rattle.token_list.specs.Check.{END}
use Rattle.token_list.specs.Row.{Row}
use Rattle.token_list.specs.Stream.{Trees, end, leaf, group, size}
use Rattle.token_list.proofs.Texts.{and_parts, and_both}
use Rattle.reading.specs.Token.{is_ident, is_literal, is_punct, is_word, group_size}
use Rattle.tagged_reading.specs.Role as role
use Rattle.tagged_reading.specs.Role.{others, is_role}
use Rattle.tagged_reading.specs.Entry.{Entry, tag, property}
use Rattle.tagged_reading.specs.Grammar as g
use Rattle.tagged_reading.specs.Grammar.{everything}
use Rattle.tagged_reading.specs.Reading.{Answer, none, read, refused, adding, before, entries, keyed, valued}
use Rattle.tagged_reading.specs.Reading.{separated, FIRST_ENTRY, list_after, attribute, tagged}
use Rattle.tagged_reading.specs.Answer.{own_number_lem}

-- ## Roles

pub named_both : (xs ys : List ℕ) → all is_role xs ≡ true → all is_role ys ≡ true → all is_role (xs ++ ys) ≡ true
named_both [] ys a b = b
named_both (x ∷ xs) ys a b =
    let p = and_parts (is_role x) (all is_role xs) a in and_both (is_role x) _ p.0 (named_both xs ys p.1 b)

pub named-others : (n : ℕ) → all is_role (others n) ≡ true
named-others zero = refl
named-others (suc n) = named-others n

-- ## Entries

module _ (b : ℕ) where
  pub data Told (ts : Trees) : Answer → Type 0 where
    reads : {es : List Entry} (rs : List ℕ) → g.Entries everything ts rs → length rs ≡ size ts → all is_role rs ≡ true
        → Told ts (read es rs)
    refuses : {n p : ℕ} → between 28 29 n ≡ true → p < b → Told ts (refused n p)

  choice : {ts : Trees} {x y : Answer} (t : Bool) → (t ≡ true → Told ts x) → (t ≡ false → Told ts y)
      → Told ts (cond t x y)
  choice true f k = f refl
  choice false f k = k refl

  -- an entry, and those after it
  added : {ts us : Trees} {a : Answer} (es : List Entry) (rs : List ℕ) → g.Entry everything ts us rs
      → length rs + size us ≡ size ts → all is_role rs ≡ true → Told us a → Told ts (adding es rs a)
  added es rs e l n (reads qs h k m) =
      reads (rs ++ qs) (g.Entries.next e h) (omega (arith, length-append rs qs)) (named_both rs qs n m)
  added es rs e l n (refuses h k) = refuses h k

  done : Told end (read [] [])
  done = reads [] g.Entries.none refl refl

  mutual
    pub entries_told : (row : ℕ) (ts : Trees) → row + size ts ≤ b → Told ts (entries row ts)
    entries_told row end h = done
    entries_told row (group d ts us) h = refuses {p = row} refl (omega arith)
    entries_told row (leaf q us) h =
        choice (is_ident q) (λ k. keyed_told row q us k h) (λ k. refuses {p = row} refl (omega arith))

    keyed_told : (row : ℕ) (q : Row) (us : Trees) → is_ident q ≡ true → row + size (leaf q us) ≤ b
        → Told (leaf q us) (keyed row q.text us)
    keyed_told row q end k h =
        added (tag q.text ∷ []) (role.tag ∷ []) (g.Entry.tag k g.Separated.last) refl refl done
    keyed_told row q (group d ts us) k h = refuses {p = row} refl (omega arith)
    keyed_told row q (leaf p us) k h =
        choice (is_punct COMMA p)
        (λ c. added (tag q.text ∷ []) (role.tag ∷ role.other ∷ []) (g.Entry.tag k (g.Separated.comma c))
        (omega arith) refl (entries_told (row + 2) us (omega arith)))
        (λ c. choice (is_punct EQUALS p) (λ e. valued_told row q p us k e h)
        (λ e. refuses {p = row} refl (omega arith)))

    valued_told : (row : ℕ) (q e : Row) (us : Trees) → is_ident q ≡ true → is_punct EQUALS e ≡ true
        → row + size (leaf q (leaf e us)) ≤ b → Told (leaf q (leaf e us)) (valued row q.text us)
    valued_told row q e end k f h = added [] (others 2) (g.Entry.without_value refl k f) refl refl done
    valued_told row q e (group d ts us) k f h =
        let n = 2 + group_size ts in
        added [] (others n) (g.Entry.lost_group refl k f refl)
        (omega (arith, length-replicate n role.other)) (named-others n)
        (entries_told (row + n) us (omega arith))
    valued_told row q e (leaf v us) k f h =
        choice (is_literal v) (λ l. separated_told row q e v us k f l h)
        (λ l. added [] (others 3) (g.Entry.lost refl k f l refl) (omega arith) refl
        (entries_told (row + 3) us (omega arith)))

    separated_told : (row : ℕ) (q e v : Row) (us : Trees) → is_ident q ≡ true → is_punct EQUALS e ≡ true
        → is_literal v ≡ true → row + size (leaf q (leaf e (leaf v us))) ≤ b
        → Told (leaf q (leaf e (leaf v us))) (separated row (property q.text v.text) us)
    separated_told row q e v end k f l h =
        added (property q.text v.text ∷ []) (role.key ∷ role.other ∷ role.value ∷ [])
        (g.Entry.property k f l g.Separated.last) refl refl done
    separated_told row q e v (group d ts us) k f l h = refuses {p = row + 3} refl (omega arith)
    separated_told row q e v (leaf c us) k f l h =
        choice (is_punct COMMA c)
        (λ m. added (property q.text v.text ∷ []) (role.key ∷ role.other ∷ role.value ∷ role.other ∷ [])
        (g.Entry.property k f l (g.Separated.comma m)) (omega arith) refl
        (entries_told (row + 4) us (omega arith)))
        (λ m. refuses {p = row + 3} refl (omega arith))

-- ## The list

replicate_last : (n v : ℕ) → replicate (suc n) v ≡ replicate n v ++ v ∷ []
replicate_last zero v = refl
replicate_last (suc n) v = ap (λ (xs : List ℕ). v ∷ xs) (replicate_last n v)

-- the rows after the entries, and the last row
pub last_row : (rs : List ℕ) (n : ℕ) → rs ++ others (n + 1) ≡ (rs ++ others n) ++ role.other ∷ []
last_row rs n =
    ap (λ (m : ℕ). rs ++ others m) (add-one n) ∙ ap (λ (xs : List ℕ). rs ++ xs) (replicate_last n role.other)
    ∙ sym (append_assoc rs (others n) (role.other ∷ []))

-- a role for each row, by the grammar
pub record Assigned (prefix : List ℕ) (ts : Trees) (rs : List ℕ) : Type 0 where
  pub obeys : g.Obeys everything prefix ts rs
  pub counted : length rs ≡ size ts
  pub named : all is_role rs ≡ true

-- the place of a refusal: the end mark, or a row of the stream
pub data AllTold (prefix : List ℕ) (ts : Trees) : Answer → Type 0 where
  nothing : AllTold prefix ts none
  reads : {es : List Entry} (rs : List ℕ) → Assigned prefix ts rs → AllTold prefix ts (read es rs)
  refuses : {n p : ℕ} → own_number_lem n ≡ true → (p ≡ END) ⊎ (p < size ts) → AllTold prefix ts (refused n p)

module _ (prefix : List ℕ) where
  list_told : (d e : ℕ) (q : Row) (ts us : Trees) {a : Answer} → is_word prefix q ≡ true
      → Told (size (group d (leaf q (group e ts us)) end)) ts a
      → AllTold prefix (group d (leaf q (group e ts us)) end) (adding [] (others 3) (before (1 + size us + 1) a))
  list_told d e q ts us k (reads rs h l m) =
      let n = 1 + size us in
      let all-rows = others 3 ++ (rs ++ others (n + 1)) in
      let same : all-rows ≡ role.other ∷ (others 2 ++ (rs ++ others n)) ++ role.other ∷ [] =
      ap (λ (xs : List ℕ). others 3 ++ xs) (last_row rs n) in
      reads all-rows
      (record {
        obeys = subst⁻¹ (g.Obeys everything prefix (group d (leaf q (group e ts us)) end)) same
            (g.Obeys.obeys refl (g.Attribute.attribute k refl refl h refl));
        counted = omega (arith, length-append rs (others (n + 1)), length-replicate (n + 1) role.other);
        named = named_both rs (others (n + 1)) m (named-others (n + 1));
      })
  list_told d e q ts us k (refuses {n = n} {p = p} h l) =
      refuses (ap (λ (t : Bool). t || eqb n 31) h) (inr l)

  choose : {ts : Trees} {x y : Answer} (t : Bool) → (t ≡ true → AllTold prefix ts x)
      → (t ≡ false → AllTold prefix ts y) → AllTold prefix ts (cond t x y)
  choose true f k = f refl
  choose false f k = k refl

  list_after_told : (d : ℕ) (q : Row) (us : Trees) → is_word prefix q ≡ true
      → AllTold prefix (group d (leaf q us) end) (list_after us)
  list_after_told d q end k = nothing
  list_after_told d q (leaf p us) k = nothing
  list_after_told d q (group e ts us) k =
      list_told d e q ts us k (entries_told (size (group d (leaf q (group e ts us)) end)) FIRST_ENTRY ts (omega arith))

  attribute_told : (d : ℕ) (ts : Trees) → AllTold prefix (group d ts end) (attribute prefix ts)
  attribute_told d end = nothing
  attribute_told d (group e ts us) = nothing
  attribute_told d (leaf q us) = choose (is_word prefix q) (λ k. list_after_told d q us k) (λ k. nothing)

  -- the first row outside the group
  outside : (d : ℕ) (ts us : Trees) → 0 < size us → AllTold prefix (group d ts us) (refused 31 (group_size ts))
  outside d ts us h = let l : group_size ts < size (group d ts us) = omega arith in refuses refl (inr l)

  pub tagged_told : (ts : Trees) → AllTold prefix ts (tagged prefix ts)
  tagged_told end = refuses refl (inl refl)
  tagged_told (leaf q us) = let h : 0 < size (leaf q us) = omega arith in refuses refl (inr h)
  tagged_told (group d ts end) = attribute_told d ts
  tagged_told (group d ts (leaf q us)) = outside d ts (leaf q us) (omega arith)
  tagged_told (group d ts (group e us vs)) = outside d ts (group e us vs) (omega arith)
