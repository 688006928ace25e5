-- The number of the answer about a source text that is read in one call.
use mathlib.Core.Path.{◌≡◌, refl, ap, ◌∙◌, sym, subst}
use mathlib.Core.Logic.{◌⊎◌, inl, inr}
use mathlib.Core.List.{List}
use Prim.Native.Nat.{ℕ, ◌≤◌}
use native.Mathlib.Omega.{arith}
use lib.ListN.{length}
use Rattle.token_list.specs.Check.{END}
use Rattle.reading.specs.Declaration.{Kind, struct, enum}
use Rattle.reading.specs.Answer.{read_number}
use Rattle.from_source.specs.Answer as reads
use Rattle.from_source.specs.Answer.{TextRefusal, long, in_list, read_answer}
use Rattle.from_source.specs.Contract.{kind_read, read_by, ReadAs}
use Rattle.std.specs.Prelude.{Result}
use Rattle.parse.specs.Contract.{kind_of}
use Rattle.parse.specs.declared.data_type.DataType.{DataType}
use Rattle.source.specs.declared.tokens.SourceError.{SourceError}
use Rattle.exports.specs.Code.{accepted, refusal, code, decoded, kind_code}
use Rattle.exports.specs.SourceCode.{TextCase, told, case_of, place_told, text_case, LowTextPlace}
use Rattle.exports.specs.ReadSource.{TextCoded, source_case, ReadSourceInto}
use Rattle.exports.proofs.Codes.{Small, gives_back, kind_small, read_small, numbered}

-- a case that is small, and the place that goes with it
text_coded : {c d : TextCase} {p q r : ℕ} → c ≡ d → Small (case_of d) → r ≡ code (case_of c) → q ≡ place_told p c
    → TextCoded d p q r
text_coded {d = d} {p = p} same small e f =
    let number = e ∙ ap (λ (x : TextCase). code (case_of x)) same in
    let back = ap decoded number ∙ gives_back (case_of d) small in
    record { code = number; back = back; place = f ∙ ap (place_told p) same }

text_small : {s : List ℕ} {n p : ℕ} → TextRefusal read_number s n p → (1 ≤ n) × (p ≤ END)
text_small (long e n p) = (omega (arith, n), omega (arith, p))
text_small (in_list e o) = read_small o

-- what the code's answer tells
read_told : (a : reads.Answer) → text_case (numbered (λ k. kind_code (kind_of k)) (read_by a)) ≡ source_case a
read_told (reads.declared d rs) = kinds d.kind
  where
    kinds : (k : Kind) → text_case (numbered (λ k. kind_code (kind_of k)) (kind_read k)) ≡ told (accepted (kind_code k))
    kinds struct = refl
    kinds enum = refl
read_told (reads.fault_at offset) = refl
read_told (reads.refused n p) = refl

module _ (s : List ℕ) {x y : List ℕ} {t : Result DataType SourceError} (h : ReadAs s x y t) (w : Result ℕ SourceError)
    (same : w ≡ numbered (λ k. kind_code (kind_of k)) t) where
  tells : text_case w ≡ source_case (read_answer (length x) s)
  tells =
      ap text_case (same ∙ ap (numbered (λ k. kind_code (kind_of k))) h.answer)
      ∙ read_told (read_answer (length x) s)

  low : (a : reads.Answer) → read_answer (length x) s ≡ a
      → LowTextPlace (numbered (λ k. kind_code (kind_of k)) (read_by a))
  low (reads.declared d rs) e = kinds d.kind
    where
      kinds : (k : Kind) → LowTextPlace (numbered (λ k. kind_code (kind_of k)) (kind_read k))
      kinds struct = tt
      kinds enum = tt
  low (reads.fault_at offset) e = tt
  low (reads.refused n p) e = (text_small (h.refusal n p e)).1

  pub read_low : LowTextPlace w
  read_low =
      subst LowTextPlace (sym (same ∙ ap (numbered (λ k. kind_code (kind_of k))) h.answer))
      (low (read_answer (length x) s) refl)

  pub read_into : {p q r : ℕ} → r ≡ code (case_of (text_case w)) → q ≡ place_told p (text_case w)
      → ReadSourceInto s x y p q r
  read_into {p} {q} c f =
      let coded = text_coded tells (small (read_answer (length x) s) refl) c f in
      record {
        coded = coded;
        buffer = h.buffer;
        refusal = λ n m k. given (read_answer (length x) s) refl coded.place (sym coded.back ∙ k);
      }
    where
      small : (a : reads.Answer) → read_answer (length x) s ≡ a → Small (case_of (source_case a))
      small (reads.declared d rs) e = kind_small d.kind
      small (reads.fault_at offset) e = (omega arith, omega arith)
      small (reads.refused n m) e = let k = text_small (h.refusal n m e) in (k.0, omega (arith, k.1))

      given : {n m : ℕ} (a : reads.Answer) → read_answer (length x) s ≡ a → q ≡ place_told p (source_case a)
          → case_of (source_case a) ≡ refusal n m
          → (read_answer (length x) s ≡ reads.fault_at q) ⊎ TextRefusal read_number s n m
      given (reads.declared d rs) e f k = let z : ◌≡◌ {A = ℕ} 0 1 = cc in absurd (omega arith)
      given (reads.fault_at offset) e f k = inl (e ∙ ap reads.fault_at (sym f))
      given {n} {m} (reads.refused i j) e f k =
          let back : reads.refused i j ≡ reads.refused n m = cc in
          inr (h.refusal n m (e ∙ back))
