use Rattle.std.specs.Prelude.{Result, Ok}
use Rattle.std.proofs.lemmas.Result.{err_from_is_err_and}
use mathlib.Core.Bool.{not}
use mathlib.Core.List.{List, []}
use mathlib.Core.Path.{◌≡◌, refl, sym, ◌∙◌, ap, subst}
use mathlib.Core.Bool.{Bool, true}
use Prim.Native.Nat.{ℕ, ◌≤◌}
use native.Mathlib.Omega.{arith}
use borrow.Author.Tests.{not-true, not-false}
use lib.ListN.{length}
use Rattle.token_list.specs.Layout.{marked, MAX_BYTES, MAX_DEPTH}
use Rattle.token_list.specs.Check.{named}
use Rattle.token_list.specs.Contract.{start_of, Within, resumed, Walked, checked, CheckedAs}
use Rattle.token_list.specs.declared.check.Cursor.{Cursor}
use Rattle.token_list.specs.declared.check.Refusal.{Refusal}
use Rattle.token_list.specs.declared.check.LevelEnd.{LevelEnd}
use Rattle.token_list.proofs.Columns.{names-within}
use Rattle.token_list.proofs.Walks as walks
use Rattle.token_list.proofs.Bounds.{checked_as}
-- the answer of the walk over all rows
use Rattle.token_list.proofs.check.check.Goals as goal

walked : (s : List ℕ) (r : Result ℕ Refusal) {w x : Result LevelEnd Refusal} → length s ≤ MAX_BYTES → named s ≡ true
    → Walked (marked s) s (start_of s) MAX_DEPTH w → w ≡ x → checked r ≡ resumed (marked s) s [] x → CheckedAs s r
walked s r l n w e k =
    checked_as s r (k ∙ sym (walks.walked s l n ∙ w.right [] (omega arith) ∙ ap (resumed (marked s) s []) e))

-- from the first row on, with the marks that the list has
from : {s : List ℕ} {m : Bool} {c : Cursor} {w : Result LevelEnd Refusal} → m ≡ marked s → c ≡ start_of s
    → Walked m s c MAX_DEPTH w →
    Walked (marked s) s (start_of s) MAX_DEPTH w
from {s} {m = m} {c = c} {w = w} e f k =
    subst (λ (x : Cursor). Walked (marked s) s x MAX_DEPTH w) f (subst (λ (b : Bool). Walked b s c MAX_DEPTH w) e k)

pub returns-then-s-gt-MAX_BYTES : goal.returns-then-s-gt-MAX_BYTES
returns-then-s-gt-MAX_BYTES c = checked_as _ _ (sym (walks.too_long _ c.if-s-gt-MAX_BYTES.true))

pub returns-then-not-has_names : goal.returns-then-not-has_names
returns-then-not-has_names c = let unnamed = sym c.has_names.ensures ∙ not-true _ (ap not c.if-not-has_names.true) in
    checked_as _ _ (sym (walks.unnamed _ c.if-s-gt-MAX_BYTES.false unnamed))

pub walk-requires : goal.walk-requires
walk-requires c = let named = sym c.has_names.ensures ∙ not-false _ (ap not c.if-not-has_names.false) in
    subst (Within c.args.s.now) (sym c.start.ensures) (record {
      counted = omega arith;
      within =
          names-within c.args.s.now named;
    })

pub returns-in-End : goal.returns-in-End
returns-in-End c = let named = sym c.has_names.ensures ∙ not-false _ (ap not c.if-not-has_names.false) in
    walked c.args.s.now _ c.if-s-gt-MAX_BYTES.false named
    (from c.is_marked.ensures c.start.ensures c.in_ok-rows.ensures) (ap Ok c.in-End.is) refl

pub returns-in-Close : goal.returns-in-Close
returns-in-Close c = let named = sym c.has_names.ensures ∙ not-false _ (ap not c.if-not-has_names.false) in
    walked c.args.s.now _ c.if-s-gt-MAX_BYTES.false named
    (from c.is_marked.ensures c.start.ensures c.in_ok-rows.ensures) (ap Ok c.in-Close.is) refl

pub returns-in_err-rows : goal.returns-in_err-rows
returns-in_err-rows c =
    let named = sym c.has_names.ensures ∙ not-false _ (ap not c.if-not-has_names.false) in
    let p = err_from_is_err_and c.from_residual.result c.from_residual.ensures.1 in
    rw (p.1, p.2) (walked c.args.s.now _ c.if-s-gt-MAX_BYTES.false named
    (from c.is_marked.ensures c.start.ensures c.in_err-rows.ensures) refl refl)
