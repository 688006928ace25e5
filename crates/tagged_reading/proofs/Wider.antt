-- What the grammar admits with some differences, it admits with all: so with any of them there is at most one
-- assignment.
use mathlib.Core.Path.{◌≡◌, refl}
use mathlib.Core.Bool.{Bool, true, ◌||◌}
use mathlib.Core.List.{List}
use Prim.Native.Nat.{ℕ}
use Rattle.token_list.specs.Row.{Row}
use Rattle.token_list.specs.Stream.{Trees}
use Rattle.token_list.proofs.Texts.{and_parts}
use Rattle.reading.specs.Token.{is_ident}
use Rattle.reading.specs.SimplePath.{segment}
use Rattle.tagged_reading.specs.Grammar as g
use Rattle.tagged_reading.specs.Grammar.{Difference, everything}
use Rattle.tagged_reading.proofs.Promise.{obeys_unique}

module _ (allowed : Difference → Bool) where
  key : (q : Row) → g.is_key allowed q ≡ true → g.is_key everything q ≡ true
  key q e = (and_parts (allowed g.keyword-as-key || segment q) (is_ident q) e).1

  separated : {ts us : Trees} {rs : List ℕ} → g.Separated allowed ts us rs → g.Separated everything ts us rs
  separated g.Separated.last = g.Separated.last
  separated (g.Separated.comma c) = g.Separated.comma c

  entry : {ts us : Trees} {rs : List ℕ} → g.Entry allowed ts us rs → g.Entry everything ts us rs
  entry (g.Entry.tag {q = q} k h) = g.Entry.tag (key q k) (separated h)
  entry (g.Entry.property {q = q} k e l h) = g.Entry.property (key q k) e l (separated h)
  entry (g.Entry.without_value {q = q} a k e) = g.Entry.without_value refl (key q k) e
  entry (g.Entry.lost {q = q} a k e l u) = g.Entry.lost refl (key q k) e l refl
  entry (g.Entry.lost_group {q = q} a k e u) = g.Entry.lost_group refl (key q k) e refl

  entries : {ts : Trees} {rs : List ℕ} → g.Entries allowed ts rs → g.Entries everything ts rs
  entries g.Entries.none = g.Entries.none
  entries (g.Entries.next e h) = g.Entries.next (entry e) (entries h)

  obeys : {prefix : List ℕ} {ts : Trees} {rs : List ℕ} → g.Obeys allowed prefix ts rs → g.Obeys everything prefix ts rs
  obeys (g.Obeys.obeys d (g.Attribute.attribute k w e h r)) =
      g.Obeys.obeys refl (g.Attribute.attribute k refl refl (entries h) refl)

-- with any differences allowed, two assignments that obey are equal
pub unique : (allowed : Difference → Bool) {ts : Trees} (prefix rs qs : List ℕ) → g.Obeys allowed prefix ts rs →
    g.Obeys allowed prefix ts qs → rs ≡ qs
unique allowed prefix rs qs h k = obeys_unique prefix rs qs (obeys allowed h) (obeys allowed k)
