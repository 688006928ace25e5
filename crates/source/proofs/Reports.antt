-- What is printed of a source text.
use mathlib.Core.Path.{◌≡◌, refl, ap, sym}
use mathlib.Core.Bool.{Bool, true, false, cond, ◌&&◌}
use mathlib.Core.List.{List, [], ◌∷◌}
use Prim.Native.Nat.{ℕ, ◌+◌, ◌^◌, ◌≤◌, ◌<◌}
use native.Mathlib.Omega.{arith}
use borrow.Author.Tests.{leb-true}
use lib.Dec.{eqb, ltb, leb}
use lib.ListN.{length, take, length-take, length-append}
use lib.Seq.{length-take-le}
use Rattle.token_list.specs.Byte.{LF}
use Rattle.token_list.specs.Layout.{MAX_BYTES, MAX_ROWS}
use Rattle.token_list.specs.Row.{Row}
use Rattle.token_list.specs.Rows.{list_of}
use Rattle.token_list.specs.Check.{END}
use Rattle.token_list.proofs.Texts.{and_parts}
use Rattle.output.proofs.Texts.{decimal-within}
use Rattle.source.specs.Brackets.{Matched, sound, faulty, brackets}
use Rattle.source.specs.Lex.{lex}
use Rattle.source.specs.Answer.{wrote, refused, rows_of, within_limits, fitted}
use Rattle.source.specs.Answer.{matched_answer, answer}
use Rattle.source.specs.Place.{line_after, column_after, line_of, column_of}
use Rattle.source.specs.Tokens.{TokensAs}
use Rattle.source.specs.Report.{position_text, fault_text, at_most}
use Rattle.std.specs.Prelude.{Result, Ok, Err}
use Rattle.source.specs.declared.tokens.SourceError.{SourceError}
use Rattle.source.specs.declared.tokens.SourceError.TheVariants as errors

-- ## Lengths

line_most : (line : ℕ) (t : List ℕ) → line_after line t ≤ line + length t
line_most line [] = omega arith
line_most line (b ∷ t) = go (eqb b LF) (line_most (line + 1) t) (line_most line t)
  where
    go : (c : Bool) → line_after (line + 1) t ≤ line + 1 + length t → line_after line t ≤ line + length t
        → cond c (line_after (line + 1) t) (line_after line t) ≤ line + length (b ∷ t)
    go true p q = omega arith
    go false p q = omega arith

column_most : (column k : ℕ) (t : List ℕ) → 1 ≤ k → column ≤ k → column_after column t ≤ k + length t
column_most column k [] o h = omega arith
column_most column k (b ∷ t) o h =
    go (eqb b LF) (column_most 1 (k + 1) t (omega arith) (omega arith))
    (column_most (column + 1) (k + 1) t (omega arith) (omega (arith, h)))
  where
    go : (c : Bool) → column_after 1 t ≤ k + 1 + length t → column_after (column + 1) t ≤ k + 1 + length t
        → cond c (column_after 1 t) (column_after (column + 1) t) ≤ k + length (b ∷ t)
    go true p q = omega arith
    go false p q = omega arith

pub position_few : (s : List ℕ) (offset : ℕ) → length s < 2 ^ 64 → length (position_text s offset) ≤ 41
unfolding position_text line_of column_of
position_few s offset h =
    let few = length-take offset s in
    let line = line_most 1 (take offset s) in
    let column = column_most 1 1 (take offset s) (omega arith) (omega arith) in
    let lines = decimal-within 19 (line_after 1 (take offset s)) (omega (arith, line, few, h)) in
    let columns = decimal-within 19 (column_after 1 (take offset s)) (omega (arith, column, few, h)) in
    simp length-append (omega (arith, lines, columns))

pub fault_few : (s : List ℕ) (offset : ℕ) → length s < 2 ^ 64 → offset < 2 ^ 64 → length (fault_text s offset) ≤ 128
unfolding fault_text
fault_few s offset h k =
    let offsets = decimal-within 19 offset (omega (arith, k)) in
    simp length-append (omega (arith, position_few s offset h, offsets))

-- no list that is written is longer than a list may be
pub answer_few : (n : ℕ) (s : List ℕ) (t : List ℕ) → answer n s ≡ wrote t → length t ≤ MAX_BYTES
unfolding answer within_limits
answer_few n s t e = go (brackets [] (lex s)) e
  where
    rs : List Row
    rs = rows_of (lex s)

    fit : (b : Bool) → length (list_of false rs) ≤ MAX_BYTES
        → cond b (refused 8 END) (wrote (list_of false rs)) ≡ wrote t
        → length t ≤ MAX_BYTES
    fit true h q = let z : ◌≡◌ {A = ℕ} 0 1 = cc in absurd (omega arith)
    fit false h q = let same : list_of false rs ≡ t = cc in omega (arith, ap length same, h)

    limit : (b : Bool) → within_limits rs ≡ b → cond b (fitted n (list_of false rs)) (refused 41 END) ≡ wrote t
        → length t ≤ MAX_BYTES
    limit true h q =
        let both = (and_parts (leb (length (list_of false rs)) MAX_BYTES && leb (length rs) MAX_ROWS) _ h).0 in
        let few = leb-true _ _ (and_parts (leb (length (list_of false rs)) MAX_BYTES) _ both).0 in
        fit (ltb n (length (list_of false rs))) few q
    limit false h q = let z : ◌≡◌ {A = ℕ} 0 1 = cc in absurd (omega arith)

    go : (m : Matched) → matched_answer n rs m ≡ wrote t → length t ≤ MAX_BYTES
    go sound q = limit (within_limits rs) refl q
    go (faulty offset) q = let z : ◌≡◌ {A = ℕ} 0 1 = cc in absurd (omega arith)

pub report_short : (s : List ℕ) {x y : List ℕ} (r : Result ℕ SourceError) → TokensAs x y (answer (length x) s) r
    → at_most r ≤ MAX_BYTES
report_short s {x} {y} (Ok n) h =
    let text = answer_few (length x) s (take n y) (sym h.answer) in
    omega (arith, text, length-take-le n y h.room)
report_short s (Err (errors.FaultAt offset)) h = omega arith
report_short s (Err (errors.Refused r)) h = omega arith
