-- What the grammar admits is read, with the same roles.
use mathlib.Core.Path.{◌≡◌, refl, ap, ◌∙◌, sym}
use mathlib.Core.Bool.{true, false}
use mathlib.Core.List.{List, [], ◌∷◌, ◌++◌}
use Prim.Native.Nat.{ℕ, ◌+◌}
use lib.ListN.{length, length-replicate}
use Rattle.token_list.specs.Byte.{COMMA, EQUALS}
use Rattle.token_list.specs.Row.{Row}
use Rattle.token_list.specs.Stream.{Trees, size}
use Rattle.token_list.proofs.Texts.{chosen, passed_over}
use Rattle.reading.specs.Token.{is_punct, group_size}
use Rattle.reading.proofs.CompleteTokens.{punct-other}
use Rattle.tagged_reading.specs.Role as role
use Rattle.tagged_reading.specs.Role.{others}
use Rattle.tagged_reading.specs.Entry.{Entry, tag, property}
use Rattle.tagged_reading.specs.Grammar as g
use Rattle.tagged_reading.specs.Grammar.{everything}
use Rattle.tagged_reading.specs.Reading.{Answer, read, adding, before, entries, FIRST_ENTRY, attribute, tagged}
use Rattle.tagged_reading.proofs.Told.{last_row}

-- what is added by one entry
record Adds (ts us : Trees) (rs : List ℕ) : Type 0 where
  es : List Entry
  from : (row : ℕ) → entries row ts ≡ adding es rs (entries (row + length rs) us)

comma_not_equals : (p : Row) → is_punct EQUALS p ≡ true → is_punct COMMA p ≡ false
comma_not_equals p e = punct-other EQUALS COMMA p e refl

entry_complete : {ts us : Trees} {rs : List ℕ} → g.Entry everything ts us rs → Adds ts us rs
entry_complete (g.Entry.tag {q = q} k g.Separated.last) =
    record { es = tag q.text ∷ []; from = λ row. chosen _ _ _ k }
entry_complete (g.Entry.tag {q = q} k (g.Separated.comma c)) =
    record { es = tag q.text ∷ []; from = λ row. chosen _ _ _ k ∙ chosen _ _ _ c }
entry_complete (g.Entry.property {q = q} {e = e} {v = v} k f l g.Separated.last) =
    record {
      es = property q.text v.text ∷ [];
      from = λ row. chosen _ _ _ k ∙ passed_over _ _ _ (comma_not_equals e f) ∙ chosen _ _ _ f ∙ chosen _ _ _ l;
    }
entry_complete (g.Entry.property {q = q} {e = e} {v = v} k f l (g.Separated.comma c)) =
    record {
      es = property q.text v.text ∷ [];
      from = λ row. chosen _ _ _ k ∙ passed_over _ _ _ (comma_not_equals e f) ∙ chosen _ _ _ f ∙ chosen _ _ _ l
          ∙ chosen _ _ _ c;
    }
entry_complete (g.Entry.without_value {e = e} a k f) =
    record { es = []; from = λ row. chosen _ _ _ k ∙ passed_over _ _ _ (comma_not_equals e f) ∙ chosen _ _ _ f }
entry_complete (g.Entry.lost {e = e} a k f l u) =
    record {
      es = [];
      from = λ row. chosen _ _ _ k ∙ passed_over _ _ _ (comma_not_equals e f) ∙ chosen _ _ _ f ∙ passed_over _ _ _ l;
    }
entry_complete (g.Entry.lost_group {e = e} {ts = ts} {us = us} a k f u) =
    let n = 2 + group_size ts in
    record {
      es = [];
      from = λ row. chosen _ _ _ k ∙ passed_over _ _ _ (comma_not_equals e f) ∙ chosen _ _ _ f
          ∙ ap (λ (m : ℕ). adding [] (others n) (entries (row + m) us)) (sym (length-replicate n role.other));
    }

pub record Entered (ts : Trees) (rs : List ℕ) : Type 0 where
  pub es : List Entry
  pub from : (row : ℕ) → entries row ts ≡ read es rs

pub entries_complete : {ts : Trees} {rs : List ℕ} → g.Entries everything ts rs → Entered ts rs
entries_complete g.Entries.none = record { es = []; from = λ row. refl }
entries_complete (g.Entries.next {rs = rs} e h) =
    let a = entry_complete e in
    let k = entries_complete h in
    record {
      es = a.es ++ k.es;
      from = λ row. a.from row ∙ ap (adding a.es rs) (k.from (row + length rs));
    }

-- ## The list

attribute_complete : {ts : Trees} {rs : List ℕ} (prefix : List ℕ) → g.Attribute everything prefix ts rs
    → (es : List Entry) × (attribute prefix ts ≡ read es (role.other ∷ rs ++ role.other ∷ []))
attribute_complete prefix (g.Attribute.attribute {us = us} {rs = rs} k w d h r) =
    let a = entries_complete h in
    let n = 1 + size us in (
      a.es,
      chosen _ _ _ k ∙ ap (λ (x : Answer). adding [] (others 3) (before (n + 1) x)) (a.from FIRST_ENTRY)
          ∙ ap (λ (xs : List ℕ). read a.es (others 3 ++ xs)) (last_row rs n),
    )

pub obeys_complete : {ts : Trees} {rs : List ℕ} (prefix : List ℕ) → g.Obeys everything prefix ts rs
    → (es : List Entry) × (tagged prefix ts ≡ read es rs)
obeys_complete prefix (g.Obeys.obeys d a) = attribute_complete prefix a
