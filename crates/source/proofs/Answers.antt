-- What the writer of token lists answers.
use mathlib.Core.Path.{◌≡◌, ap, ◌∙◌, sym, subst⁻¹}
use mathlib.Core.Bool.{false}
use mathlib.Core.List.{List, []}
use Rattle.std.specs.Prelude.{Option, Some, None, Result, Ok, Err}
use Prim.Native.Nat.{ℕ, ◌≤◌, ◌<◌}
use native.Mathlib.Omega.{arith}
use borrow.Author.Tests.{lt-ltb, le-ltb}
use lib.ListN.{length, take}
use Rattle.token_list.specs.Layout.{MAX_BYTES}
use Rattle.token_list.specs.Row.{Row}
use Rattle.token_list.specs.Rows.{list_of}
use Rattle.token_list.specs.Check.{END}
use Rattle.token_list.specs.declared.check.Refusal.{Refusal}
use Rattle.token_list.proofs.Texts.{chosen, passed_over}
use Rattle.output.specs.Contract.{Appended}
use Rattle.output.proofs.Appends.{appended_shown}
use Rattle.source.specs.Lex.{lex}
use Rattle.source.specs.Brackets.{Matched, sound, faulty, brackets}
use Rattle.source.specs.Answer.{Answer, wrote, refused, rows_of, fitted, matched_answer, answer, output}
use Rattle.source.specs.Tokens.{rows_more_lem, NO_ROWS, Listed, ScannedAs, fault, listed, Enough, Fitted}
use Rattle.source.specs.Tokens.{found_list_lem, found_of, TokensAs}
use Rattle.source.specs.declared.tokens.Size.{Size}
use Rattle.source.specs.declared.tokens.SourceError.{SourceError}
use Rattle.source.specs.declared.tokens.SourceError.TheVariants as errors
use Rattle.source.proofs.Measures.{past_limits, keeps_limits, sized}

-- ## An answer by its steps

tokens_as : {x y : List ℕ} {r : Result ℕ SourceError} {a b : Answer} → b ≡ a → TokensAs x y a r → TokensAs x y b r
tokens_as {x} {y} {r} e p = subst⁻¹ (λ (z : Answer). TokensAs x y z r) e p

tokens_refused : (x : List ℕ) (r : Refusal) {a : Answer} → a ≡ refused r.number r.place
    → TokensAs x x a (Err (errors.Refused r))
tokens_refused x r e = record { room = tt; answer = sym e; output = sym (ap (output x) e) }

-- ## A text whose brackets match

module _ (x : List ℕ) (rs : List Row) where
  pub tokens_over : None ≡ rows_more_lem NO_ROWS rs
      → TokensAs x x (matched_answer (length x) rs sound) (Err (errors.Refused (record { number = 41; place = END })))
  tokens_over e =
      tokens_refused x (record { number = 41; place = END }) (passed_over _ _ (refused 41 END) (past_limits rs e))

  module _ (z : Size) (measured : Some z ≡ rows_more_lem NO_ROWS rs) where
    list_fitted : matched_answer (length x) rs sound ≡ fitted (length x) (list_of false rs)
    list_fitted = chosen _ (fitted (length x) (list_of false rs)) _ (keeps_limits rs measured).0

    pub tokens_long : length x < z.bytes
        → TokensAs x x (matched_answer (length x) rs sound) (Err (errors.Refused (record { number = 8; place = END })))
    tokens_long h =
        let long = lt-ltb (length x) (length (list_of false rs)) (omega (arith, (keeps_limits rs measured).1)) in
        tokens_refused x (record { number = 8; place = END }) (list_fitted ∙ chosen _ (refused 8 END) _ long)

    pub tokens_list : {y : List ℕ} {r : ℕ} → z.bytes ≤ length x → Appended x y 0 r (list_of false rs)
        → TokensAs x y (matched_answer (length x) rs sound) (Ok r)
    tokens_list {y} {r} h p =
        let text = list_of false rs in
        let room : length text ≤ length x = omega (arith, (keeps_limits rs measured).1) in
        let stored = p.room (omega arith) in
        let count : length text ≡ r = omega (arith, stored.next) in
        let told = list_fitted ∙ passed_over _ _ (wrote text) (le-ltb (length x) (length text) room) in
        record {
          room = omega (arith, p.kept, stored.next);
          answer =
              ap wrote (ap (λ (n : ℕ). take n y) (sym count) ∙ appended_shown p (omega (arith, p.kept))) ∙ sym told;
          output = stored.bytes ∙ sym (ap (output x) told);
        }

-- ## Any text

module _ (x s : List ℕ) where
  answer_as : {m : Matched} → m ≡ brackets [] (lex s)
      → answer (length x) s ≡ matched_answer (length x) (rows_of (lex s)) m
  unfolding answer
  answer_as e = ap (matched_answer (length x) (rows_of (lex s))) (sym e)

  pub tokens_sound : {y : List ℕ} {t : Result ℕ SourceError} → brackets [] (lex s) ≡ sound
      → TokensAs x y (matched_answer (length x) (rows_of (lex s)) sound) t → TokensAs x y (answer (length x) s) t
  tokens_sound e p = tokens_as (answer_as (sym e)) p

  pub tokens_fault : {i : ℕ} → brackets [] (lex s) ≡ faulty i
      → TokensAs x x (answer (length x) s) (Err (errors.FaultAt i))
  tokens_fault e =
      let told = answer_as (sym e) in
      record { room = tt; answer = sym told; output = sym (ap (output x) told) }

-- ## What was found in one round

module _ {s l : List ℕ} where
  -- a fault, or a text without one
  pub faulted : {i : ℕ} → ScannedAs s l (Err i) → brackets [] (lex s) ≡ faulty i
  faulted (fault e) = e

  pub listed_as : {m : Option Size} → ScannedAs s l (Ok m) → Listed s l m
  listed_as (listed k) = k

-- as many bytes as a list may have are enough
pub fitted-all : {s l : List ℕ} {r : Result (Option Size) ℕ} {n : ℕ} → ScannedAs s l r → MAX_BYTES ≤ n → Fitted r n
fitted-all (fault e) h = tt
fitted-all {s} {n = n} (listed {m} k) h = go m k.measured
  where
    go : (m : Option Size) → m ≡ rows_more_lem NO_ROWS (rows_of (lex s)) → Enough m n
    go None e = tt
    go (Some z) e = omega (arith, (sized (rows_of (lex s)) e).few, h)

listed_answer : (s l : List ℕ) (m : Option Size) → Listed s l m → Enough m (length l)
    → matched_answer MAX_BYTES (rows_of (lex s)) sound ≡ found_list_lem l m
listed_answer s l None h e = passed_over _ _ (refused 41 END) (past_limits _ h.measured)
listed_answer s l (Some z) h e =
    let text = list_of false (rows_of (lex s)) in
    let known = sized (rows_of (lex s)) h.measured in
    let few = le-ltb MAX_BYTES (length text) (omega (arith, known.bytes, known.few)) in
    let list = h.list (omega (arith, known.bytes)) in
    chosen _ (fitted MAX_BYTES text) _ known.within ∙ passed_over _ _ (wrote text) few
    ∙ ap wrote (sym list ∙ ap (λ (n : ℕ). take n l) (sym known.bytes))

-- what was found is the answer, where there is room for every list
pub found-answer : {s l : List ℕ} {r : Result (Option Size) ℕ} → ScannedAs s l r → Fitted r (length l)
    → answer MAX_BYTES s ≡ found_of l r
unfolding answer
found-answer {s} (fault e) f = ap (matched_answer MAX_BYTES (rows_of (lex s))) e
found-answer {s} {l} (listed {m} h) f =
    ap (matched_answer MAX_BYTES (rows_of (lex s))) h.matched ∙ listed_answer s l m h f

-- and how many rows it has
pub found_rows : {s l : List ℕ} {z : Size} → Listed s l (Some z) → z.rows ≡ length (rows_of (lex s))
found_rows {s} h = (sized (rows_of (lex s)) h.measured).rows
