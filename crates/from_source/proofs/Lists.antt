-- The list of a source text always has room in a buffer of as many bytes as a list may have.
use mathlib.Core.Path.{◌≡◌, refl, ap, sym}
use mathlib.Core.Bool.{Bool, true, false, cond, ◌&&◌}
use mathlib.Core.List.{List, []}
use Prim.Native.Nat.{ℕ, ◌≤◌}
use native.Mathlib.Omega.{arith}
use borrow.Author.Tests.{leb-true, ltb-true}
use lib.Dec.{leb, ltb}
use lib.ListN.{length}
use Rattle.token_list.specs.Layout.{MAX_BYTES, MAX_ROWS}
use Rattle.token_list.specs.Row.{Row}
use Rattle.token_list.specs.Rows.{list_of}
use Rattle.token_list.specs.Check.{END}
use Rattle.token_list.proofs.Texts.{and_parts}
use Rattle.source.specs.Brackets.{Matched, sound, faulty, brackets}
use Rattle.source.specs.Lex.{lex}
use Rattle.source.specs.Answer.{Answer, wrote, refused, rows_of, within_limits, fitted, matched_answer, answer}
use Rattle.from_source.specs.Answer.{Roomy}

abbrev number_of : Answer → ℕ
number_of (wrote t) = 0
number_of (Answer.fault_at offset) = 0
number_of (refused n p) = n

abbrev place_of : Answer → ℕ
place_of (wrote t) = 0
place_of (Answer.fault_at offset) = 0
place_of (refused n p) = p

-- what is refused of a text is 40, or 41 at the end mark
pub roomy : (s : List ℕ) → Roomy s
unfolding answer within_limits
roomy s = record { limits = λ n p e. go n p (brackets [] (lex s)) e }
  where
    rs : List Row
    rs = rows_of (lex s)

    fit : (n p : ℕ) (b : Bool) → ltb MAX_BYTES (length (list_of false rs)) ≡ b → length (list_of false rs) ≤ MAX_BYTES
        → cond b (refused 8 END) (wrote (list_of false rs)) ≡ refused n p → (n ≡ 41) × (p ≡ END)
    fit n p true l h q = absurd (omega (arith, ltb-true MAX_BYTES (length (list_of false rs)) l, h))
    fit n p false l h q = let z : ◌≡◌ {A = ℕ} 0 1 = cc in absurd (omega arith)

    limit : (n p : ℕ) (b : Bool) → within_limits rs ≡ b
        → cond b (fitted MAX_BYTES (list_of false rs)) (refused 41 END) ≡ refused n p → (n ≡ 41) × (p ≡ END)
    limit n p true h q =
        let both = (and_parts (leb (length (list_of false rs)) MAX_BYTES && leb (length rs) MAX_ROWS) _ h).0 in
        let few = leb-true _ _ (and_parts (leb (length (list_of false rs)) MAX_BYTES) _ both).0 in
        fit n p (ltb MAX_BYTES (length (list_of false rs))) refl few q
    limit n p false h q = (sym (ap number_of q), sym (ap place_of q))

    go : (n p : ℕ) (m : Matched) → matched_answer MAX_BYTES rs m ≡ refused n p → (n ≡ 41) × (p ≡ END)
    go n p sound q = limit n p (within_limits rs) refl q
    go n p (faulty offset) q = let z : ◌≡◌ {A = ℕ} 0 1 = cc in absurd (omega arith)
