-- What is read of a source text, from what one round over it found.
use mathlib.Core.Path.{◌≡◌, ap, ◌∙◌, sym, subst}
use mathlib.Core.Bool.{Bool, true, false, true≢false}
use mathlib.Core.List.{List}
use Prim.Native.Nat.{ℕ, ◌≤◌, ◌<◌}
use native.Mathlib.Omega.{arith}
use native.Mathlib.Decide.{dec_le}
use lib.ListN.{length, take, replicate}
use Rattle.token_list.specs.Layout.{MAX_BYTES}
use Rattle.token_list.specs.Check.{check, passed}
use Rattle.token_list.specs.declared.check.Refusal.{Refusal}
use Rattle.reading.specs.Role as role
use Rattle.reading.specs.Answer as readings
use Rattle.parse.specs.Contract.{Answered}
use Rattle.parse.specs.declared.item.ItemAt.{ItemAt}
use Rattle.source.specs.Answer as source
use Rattle.source.specs.Tokens.{ScannedAs, Fitted, found_of}
use Rattle.source.specs.declared.tokens.Size.{Size}
use Rattle.source.specs.declared.tokens.SourceError.{SourceError}
use Rattle.source.specs.declared.tokens.SourceError.TheVariants as errors
use Rattle.parse.specs.declared.data_type.DataType.{DataType}
use Rattle.std.specs.Prelude.{Option, Some, Result, Ok, Err}
use Rattle.source.proofs.Answers.{listed_as, fitted-all, found-answer, found_rows}
use Rattle.source.proofs.Written.{token_list_lem}
use Rattle.from_source.specs.Answer.{in_list, buffer}
use Rattle.from_source.specs.Contract.{read_of, read_by, ReadAs}
use Rattle.from_source.proofs.Readings.{read_as, buffers_same, parsed_read, no_refusal, text_back, over, read_back}

-- ## By the answer for the text

module _ (s x : List ℕ) where
  pub told_fault : {y : List ℕ} {offset : ℕ} → source.answer MAX_BYTES s ≡ source.fault_at offset
      → y ≡ replicate (length x) role.none
      → ReadAs s x y (Err (errors.FaultAt offset))
  told_fault told f =
      let q = read_as (length x) s told in
      record {
        answer = sym (ap read_by q);
        buffer = f ∙ sym (ap (buffer (length x)) q);
        refusal = λ n p g. no_refusal (sym q ∙ g);
      }

  pub told_refused : {y : List ℕ} {f : Refusal} {p : Result ItemAt Refusal} {r : Result DataType SourceError}
      → source.answer MAX_BYTES s ≡ source.refused f.number f.place
      → y ≡ replicate (length x) role.none → p ≡ Err f → r ≡ read_of p → ReadAs s x y r
  told_refused told f g h =
      let q = read_as (length x) s told in
      record {
        answer = h ∙ ap read_of g ∙ sym (ap read_by q);
        buffer = f ∙ sym (ap (buffer (length x)) q);
        refusal = λ n p k. over (told ∙ text_back (sym q ∙ k));
      }

  pub told_list : {l y : List ℕ} {p : Result ItemAt Refusal} {r : Result DataType SourceError}
      → source.answer MAX_BYTES s ≡ source.wrote l → Answered l p x y → r ≡ read_of p → ReadAs s x y r
  told_list {l} {p = p} told h f =
      let q = read_as (length x) s told in
      let a = readings.answer l (length x) in
      record {
        answer = f ∙ parsed_read l p a h.answer ∙ sym (ap read_by q);
        buffer = h.buffer ∙ buffers_same (length x) a ∙ sym (ap (buffer (length x)) q);
        refusal = λ k o g. in_list told (h.refusal k o (read_back a (sym q ∙ g)));
      }

-- ## What was found in a text

module _ {s l : List ℕ} {r : Result (Option Size) ℕ} (h : ScannedAs s l r) (fits : Fitted r (length l)) where
  pub found_as : {u : Result (Option Size) ℕ} → r ≡ u → source.answer MAX_BYTES s ≡ found_of l u
  found_as e = found-answer h fits ∙ ap (found_of l) e

  -- the list passes the check with as many rows as were counted
  pub found-checked : {z : Size} → r ≡ Ok (Some z) → check (take z.bytes l) ≡ passed z.rows
  found-checked {z} e =
      (token_list_lem MAX_BYTES s).passes (take z.bytes l) (found_as e)
      ∙ ap passed (sym (found_rows (listed_as (subst (ScannedAs s l) e h))))

-- a list that is too short for what was found is shorter than one may be
pub no_room : {s l : List ℕ} {r : Result (Option Size) ℕ} {n : ℕ} {b : Bool} → ScannedAs s l r
    → (Fitted r n → b ≡ true) → b ≡ false → n < MAX_BYTES
no_room {n = n} h whole none = go (dec_le MAX_BYTES n)
  where
    go : Dec (MAX_BYTES ≤ n) → n < MAX_BYTES
    go (yes m) = absurd (true≢false (sym (whole (fitted-all h m)) ∙ none))
    go (no m) = omega arith
