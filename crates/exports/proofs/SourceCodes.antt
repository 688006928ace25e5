-- The number of the answer about a source text.
use mathlib.Core.Path.{◌≡◌, refl, ap, ◌∙◌, sym}
use mathlib.Core.Bool.{Bool, true, false, cond}
use mathlib.Core.List.{List, []}
use Prim.Native.Nat.{ℕ, ◌≤◌}
use native.Mathlib.Omega.{arith}
use lib.Dec.{ltb}
use lib.ListN.{length}
use lib.Seq.{length-take-le}
use Rattle.token_list.specs.Row.{Row}
use Rattle.token_list.specs.Rows.{list_of}
use Rattle.token_list.specs.Check.{END}
use Rattle.source.specs.Brackets.{Matched, sound, faulty, brackets}
use Rattle.source.specs.Lex.{lex}
use Rattle.source.specs.Answer.{Answer, wrote, fault_at, refused, rows_of, within_limits, fitted, matched_answer}
use Rattle.source.specs.Answer.{answer}
use Rattle.source.specs.Tokens.{TokensAs}
use Rattle.source.specs.declared.tokens.SourceError.{SourceError}
use Rattle.source.specs.declared.tokens.SourceError.TheVariants as errors
use Rattle.std.specs.Prelude.{Result, Ok, Err}
use Rattle.source.proofs.Reports.{answer_few}
use Rattle.exports.specs.Code.{accepted, code, decoded}
use Rattle.exports.specs.SourceCode.{case_of, place_told, text_case, LowTextPlace, tokens_case, place_after, TokensInto}
use Rattle.exports.proofs.Codes.{Small, gives_back}

-- 41 and 8 have the end mark
answer_refused : (n : ℕ) (s : List ℕ) (m p : ℕ) → answer n s ≡ refused m p → (8 ≤ m) × (p ≡ END)
unfolding answer
answer_refused n s m p e = go (brackets [] (lex s)) e
  where
    rs : List Row
    rs = rows_of (lex s)

    fit : (b : Bool) → cond b (refused 8 END) (wrote (list_of false rs)) ≡ refused m p → (8 ≤ m) × (p ≡ END)
    fit true q =
        let number : 8 ≡ m = cc in
        let place : END ≡ p = cc in
        (omega (arith, number), sym place)
    fit false q = let z : ◌≡◌ {A = ℕ} 0 1 = cc in absurd (omega arith)

    limit : (b : Bool) → cond b (fitted n (list_of false rs)) (refused 41 END) ≡ refused m p → (8 ≤ m) × (p ≡ END)
    limit true q = fit (ltb n (length (list_of false rs))) q
    limit false q =
        let number : 41 ≡ m = cc in
        let place : END ≡ p = cc in
        (omega (arith, number), sym place)

    go : (b : Matched) → matched_answer n rs b ≡ refused m p → (8 ≤ m) × (p ≡ END)
    go sound q = limit (within_limits rs) q
    go (faulty offset) q = let z : ◌≡◌ {A = ℕ} 0 1 = cc in absurd (omega arith)

tokens_small : (n : ℕ) (s : List ℕ) → Small (tokens_case (answer n s))
tokens_small n s = go (answer n s) refl
  where
    go : (a : Answer) → answer n s ≡ a → Small (tokens_case a)
    go (wrote t) e = omega (arith, answer_few n s t e)
    go (fault_at offset) e = (omega arith, omega arith)
    go (refused m p) e = let h = answer_refused n s m p e in (omega (arith, h.0), omega (arith, h.1))

module _ (s : List ℕ) {x y : List ℕ} (w : Result ℕ SourceError) (h : TokensAs x y (answer (length x) s) w) where
  pub tokens_low : LowTextPlace w
  tokens_low = go w h
    where
      go : (w : Result ℕ SourceError) → TokensAs x y (answer (length x) s) w → LowTextPlace w
      go (Ok n) k = tt
      go (Err (errors.FaultAt offset)) k = tt
      go (Err (errors.Refused r)) k =
          omega (arith, (answer_refused (length x) s r.number r.place (sym k.answer)).1)

  tells : (w : Result ℕ SourceError) → TokensAs x y (answer (length x) s) w
      → case_of (text_case w) ≡ tokens_case (answer (length x) s)
  tells (Ok n) k = ap accepted (sym (length-take-le n y k.room)) ∙ ap tokens_case k.answer
  tells (Err (errors.FaultAt offset)) k = ap tokens_case k.answer
  tells (Err (errors.Refused r)) k = ap tokens_case k.answer

  places : (p : ℕ) (w : Result ℕ SourceError) → TokensAs x y (answer (length x) s) w
      → place_told p (text_case w) ≡ place_after p (answer (length x) s)
  places p (Ok n) k = ap (place_after p) k.answer
  places p (Err (errors.FaultAt offset)) k = ap (place_after p) k.answer
  places p (Err (errors.Refused r)) k = ap (place_after p) k.answer

  pub tokens_into : {p q r : ℕ} → r ≡ code (case_of (text_case w)) → q ≡ place_told p (text_case w)
      → TokensInto s x y p q r
  tokens_into {p} c q =
      let number = c ∙ ap code (tells w h) in
      record {
        code = number;
        back = ap decoded number ∙ gives_back (tokens_case (answer (length x) s)) (tokens_small (length x) s);
        output = h.output;
        place = q ∙ places p w h;
      }
