-- What is printed of a source text.
use mathlib.Core.Path.{◌≡◌, refl, ap, sym}
use mathlib.Core.List.{List}
use Prim.Native.Nat.{ℕ, ◌^◌, ◌≤◌, ◌<◌}
use native.Mathlib.Omega.{arith}
use lib.ListN.{length, take, length-append}
use lib.Seq.{length-take-le}
use Rattle.token_list.specs.Layout.{MAX_BYTES}
use Rattle.output.specs.Contract.{Printed}
use Rattle.output.specs.Answer as outputs
use Rattle.output.proofs.Texts.{decimal_few, place_few}
use Rattle.source.specs.Answer as source
use Rattle.source.specs.Answer.{Answer, wrote, fault_at, refused, output}
use Rattle.source.proofs.Reports.{position_few}
use Rattle.describe.specs.Listing as listing
use Rattle.describe.specs.Listing.{MOST, listing_number}
use Rattle.describe.proofs.Length.{fits}
use Rattle.from_source.specs.Answer.{written_answer, listed_answer, listing_answer, listed_fully, full_answer}
use Rattle.from_source.specs.Answer.{TextRefusal}
use Rattle.from_source.specs.Report.{place_offset, placed_text, listing_text}
use Rattle.from_source.specs.Contract.{at_most, ReportedListing}
use Rattle.source.specs.declared.tokens.SourceError.{SourceError}
use Rattle.source.specs.declared.tokens.SourceError.TheVariants as errors
use Rattle.source.specs.Tokens.{TokensAs}
use Rattle.std.specs.Prelude.{Result, Ok, Err}

-- ## Lengths

pub placed_few : (s : List ℕ) (n p : ℕ) → length s < 2 ^ 64 → n < 2 ^ 64 → p < 2 ^ 64
    → length (placed_text s n p) ≤ 128
unfolding placed_text
placed_few s n p h k l =
    simp length-append
    (omega (arith, decimal_few n k, place_few p l, position_few s (place_offset s p) h))

-- no listing that is written is longer than MOST
listing_few : (n : ℕ) (s : List ℕ) (t : List ℕ) → listing_answer n s ≡ wrote t → length t ≤ MOST
unfolding listing_answer
listing_few n s t e = go (source.answer MAX_BYTES s) e
  where
    write : (list : List ℕ) (a : outputs.Answer) → listing.answer list n ≡ a → written_answer a ≡ wrote t
        → length t ≤ MOST
    write list (outputs.wrote u) f q =
        let same : u ≡ t = cc in omega (arith, ap length same, (fits list n).longest u f)
    write list (outputs.refused m p) f q = let z : ◌≡◌ {A = ℕ} 0 1 = cc in absurd (omega arith)

    go : (a : Answer) → listed_answer n a ≡ wrote t → length t ≤ MOST
    go (wrote list) q = write list (listing.answer list n) refl q
    go (fault_at offset) q = let z : ◌≡◌ {A = ℕ} 0 1 = cc in absurd (omega arith)
    go (refused m p) q = let z : ◌≡◌ {A = ℕ} 0 1 = cc in absurd (omega arith)

-- an output of MOST bytes changes nothing
room_same : (n : ℕ) (s : List ℕ) → MOST ≤ n → listing_answer n s ≡ full_answer s
unfolding listing_answer full_answer
room_same n s h = go (source.answer MAX_BYTES s)
  where
    go : (a : Answer) → listed_answer n a ≡ listed_fully a
    go (wrote list) = ap written_answer ((fits list n).room h)
    go (fault_at offset) = refl
    go (refused m p) = refl

pub reported : (s : List ℕ) {x y : List ℕ} {r : ℕ} → Printed x y r (listing_text s (listing_answer (length x) s))
    → r ≤ MOST
    → ((n p : ℕ) → listing_answer (length x) s ≡ refused n p → TextRefusal listing_number s n p)
    → ReportedListing s x y r
reported s {x} p short refusal =
    record {
      printed = p;
      roomy = λ h. rw (room_same (length x) s h) at p;
      short = short;
      refusal = refusal;
    }

pub report_short : (s : List ℕ) {x y : List ℕ} (r : Result ℕ SourceError)
    → TokensAs x y (listing_answer (length x) s) r → at_most r ≤ MOST
report_short s {x} {y} (Ok n) h =
    let text = listing_few (length x) s (take n y) (sym h.answer) in
    omega (arith, text, length-take-le n y h.room)
report_short s (Err (errors.FaultAt offset)) h = omega arith
report_short s (Err (errors.Refused r)) h = omega arith
