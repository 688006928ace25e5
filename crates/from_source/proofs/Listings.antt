-- What is written of a source text, from the answer that gives its list.
use mathlib.Core.Path.{◌≡◌, refl, ap, ◌∙◌, sym, subst⁻¹}
use mathlib.Core.List.{List}
use Prim.Native.Nat.{ℕ}
use native.Mathlib.Omega.{arith}
use lib.ListN.{length, take}
use Rattle.token_list.specs.Layout.{MAX_BYTES}
use Rattle.token_list.specs.Place.{OneRefusal}
use Rattle.output.specs.Answer as outputs
use Rattle.output.specs.Written.{WrittenAs}
use Rattle.token_list.specs.declared.check.Refusal.{Refusal}
use Rattle.source.specs.Answer.{Answer, fault_at, refused, answer, output}
use Rattle.source.specs.Tokens.{answer_of, TokensAs}
use Rattle.source.specs.declared.tokens.SourceError.{SourceError}
use Rattle.source.specs.declared.tokens.SourceError.TheVariants as errors
use Rattle.std.specs.Prelude.{Result, Ok, Err}
use Rattle.describe.specs.Listing as listing
use Rattle.from_source.specs.Answer.{written_answer, listed_answer, listing_answer, TextRefusal, long, in_list}
use Rattle.from_source.proofs.Lists.{roomy}
use Rattle.from_source.specs.Contract.{written_of}

-- the answer for a text, from the list that was written in a buffer with room for every list
list_told : (s : List ℕ) {x y : List ℕ} {t : Result ℕ SourceError} → MAX_BYTES ≡ length x
    → TokensAs x y (answer (length x) s) t
    → answer MAX_BYTES s ≡ answer_of y t
list_told s room h = ap (λ (n : ℕ). answer n s) room ∙ sym h.answer

listing_as : (n : ℕ) (s : List ℕ) {a : Answer} → answer MAX_BYTES s ≡ a → listing_answer n s ≡ listed_answer n a
unfolding listing_answer
listing_as n s e = ap (listed_answer n) e

outputs_same : (x : List ℕ) (a : outputs.Answer) → outputs.output x a ≡ output x (written_answer a)
outputs_same x (outputs.wrote t) = refl
outputs_same x (outputs.refused n p) = refl

written_back : (a : outputs.Answer) {n p : ℕ} → written_answer a ≡ refused n p → a ≡ outputs.refused n p
written_back (outputs.wrote t) e = let z : ◌≡◌ {A = ℕ} 0 1 = cc in absurd (omega arith)
written_back (outputs.refused m q) e = cc

module _ (s x : List ℕ) {l m : List ℕ} (room : MAX_BYTES ≡ length l) where
  pub error_listing : (e : SourceError) → TokensAs l m (answer (length l) s) (Err e)
      → TokensAs x x (listing_answer (length x) s) (Err e)
  error_listing (errors.FaultAt offset) h =
      let q = listing_as (length x) s (list_told s room h) in
      record { room = tt; answer = sym q; output = sym (ap (output x) q) }
  error_listing (errors.Refused r) h =
      let q = listing_as (length x) s (list_told s room h) in
      record { room = tt; answer = sym q; output = sym (ap (output x) q) }

  pub error_refusal : (e : SourceError) → TokensAs l m (answer (length l) s) (Err e)
      → (n p : ℕ) → listing_answer (length x) s ≡ refused n p → TextRefusal listing.listing_number s n p
  error_refusal (errors.FaultAt offset) h n p f =
      let q : fault_at _ ≡ refused n p = sym (listing_as (length x) s (list_told s room h)) ∙ f in
      let z : ◌≡◌ {A = ℕ} 0 1 = cc in absurd (omega arith)
  error_refusal (errors.Refused r) h n p f =
      let q = list_told s room h in
      let same = q ∙ sym (listing_as (length x) s q) ∙ f in
      let limit = (roomy s).limits n p same in
      long same limit.0 limit.1

  module _ {k : ℕ} (told : TokensAs l m (answer (length l) s) (Ok k)) where
    abbrev written_list : outputs.Answer
    written_list = listing.answer (take k m) (length x)

    listed : listing_answer (length x) s ≡ written_answer written_list
    listed = listing_as (length x) s (list_told s room told)

    pub list_refusal : ((n p : ℕ) → written_list ≡ outputs.refused n p
        → OneRefusal listing.listing_number (take k m) n p)
        → (n p : ℕ) → listing_answer (length x) s ≡ refused n p → TextRefusal listing.listing_number s n p
    list_refusal h n p f = in_list (list_told s room told) (h n p (written_back _ (sym listed ∙ f)))

    pub listing_list : {y : List ℕ} {w : Result ℕ Refusal} {r : Result ℕ SourceError} → WrittenAs x y written_list w
        → r ≡ written_of w
        → TokensAs x y (listing_answer (length x) s) r
    listing_list {y} {w} h f =
        subst⁻¹ (λ (r : Result ℕ SourceError). TokensAs x y (listing_answer (length x) s) r) f (go w h)
      where
        go : (w : Result ℕ Refusal) → WrittenAs x y written_list w
            → TokensAs x y (listing_answer (length x) s) (written_of w)
        go (Ok k) h =
            record {
              room = h.room;
              answer = ap written_answer h.answer ∙ sym listed;
              output = h.output ∙ outputs_same x written_list ∙ sym (ap (output x) listed);
            }
        go (Err r) h =
            record {
              room = tt;
              answer = ap written_answer h.answer ∙ sym listed;
              output = h.output ∙ outputs_same x written_list ∙ sym (ap (output x) listed);
            }
