-- What is read of a source text, from the answer that gives its list.
use mathlib.Core.Path.{◌≡◌, ◌∙◌, refl, ap, sym}
use mathlib.Core.List.{List}
use Prim.Native.Nat.{ℕ}
use native.Mathlib.Omega.{arith}
use Rattle.token_list.specs.Layout.{MAX_BYTES}
use Rattle.reading.specs.Answer as readings
use Rattle.reading.specs.Answer.{read_number}
use Rattle.token_list.specs.declared.check.Refusal.{Refusal}
use Rattle.parse.specs.Contract.{ParsedAs, kind_of}
use Rattle.parse.specs.declared.data_type.DataType.{DataType}
use Rattle.parse.specs.declared.data_type.DataType.TheVariants.{Struct, Enum}
use Rattle.parse.specs.declared.item.ItemAt.{ItemAt}
use Rattle.source.specs.Answer as source
use Rattle.std.specs.Prelude.{Result, Ok, Err}
use Rattle.source.specs.declared.tokens.SourceError.TheVariants as errors
use Rattle.from_source.specs.Answer.{TextRefusal, long, fault_at, refused, reading_answer, list_read}
use Rattle.from_source.specs.Answer.{read_answer, buffer}
use Rattle.from_source.specs.Contract.{read_of, kind_read, read_by}
use Rattle.from_source.proofs.Lists.{roomy}

pub read_as : (n : ℕ) (s : List ℕ) {a : source.Answer} → source.answer MAX_BYTES s ≡ a → read_answer n s ≡ list_read n a
unfolding read_answer
read_as n s e = ap (list_read n) e

pub buffers_same : (n : ℕ) (a : readings.Answer) → readings.buffer n a ≡ buffer n (reading_answer a)
buffers_same n (readings.declared d rs) = refl
buffers_same n (readings.refused m p) = refl

kind_back : (k : DataType) → kind_read (kind_of k) ≡ Ok k
kind_back Struct = refl
kind_back Enum = refl

-- the reader's answer
pub parsed_read : (s : List ℕ) (p : Result ItemAt Refusal) (a : readings.Answer) → ParsedAs s p a
    → read_of p ≡ read_by (reading_answer a)
parsed_read s (Ok i) (readings.declared d rs) h = sym (ap kind_read h.0.kind ∙ kind_back i.kind)
parsed_read s (Err r) (readings.declared d rs) h = absurd h
parsed_read s (Ok i) (readings.refused n p) h = absurd h
parsed_read s (Err r) (readings.refused n p) h =
    λ j. Err (errors.Refused (record { number = h.0 j; place = h.1 j }))

-- ## Refusals

pub no_refusal : {offset n p : ℕ} {s : List ℕ} → fault_at offset ≡ refused n p → TextRefusal read_number s n p
no_refusal e = let z : ◌≡◌ {A = ℕ} 0 1 = cc in absurd (omega arith)

pub text_back : {m q n p : ℕ} → refused m q ≡ refused n p → source.refused m q ≡ source.refused n p
text_back e = cc

pub over : {s : List ℕ} {n p : ℕ} → source.answer MAX_BYTES s ≡ source.refused n p → TextRefusal read_number s n p
over {s} {n} {p} e = let limit = (roomy s).limits n p e in long e limit.0 limit.1

pub read_back : (a : readings.Answer) {n p : ℕ} → reading_answer a ≡ refused n p → a ≡ readings.refused n p
read_back (readings.declared d rs) e = let z : ◌≡◌ {A = ℕ} 0 1 = cc in absurd (omega arith)
read_back (readings.refused m q) e = cc
