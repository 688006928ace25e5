-- What ties the code's answers to the meaning.
use Rattle.std.specs.Prelude.{◌≡◌, List, ℕ, ◌≤◌, ◌<◌, Option, Some, None, Result, Ok, Err, length}
use Rattle.token_list.specs.Layout.{MAX_BYTES}
use Rattle.output.specs.Contract.{Printed}
use Rattle.token_list.specs.declared.check.Refusal.{Refusal}
use Rattle.reading.specs.Declaration.{Kind, struct, enum}
use Rattle.reading.specs.Answer.{read_number}
use Rattle.parse.specs.declared.data_type.DataType.{DataType}
use Rattle.parse.specs.declared.data_type.DataType.TheVariants as kinds
use Rattle.parse.specs.declared.item.ItemAt.{ItemAt}
use Rattle.source.specs.Answer.{refused}
use Rattle.source.specs.declared.tokens.SourceError.{SourceError}
use Rattle.source.specs.declared.tokens.SourceError.TheVariants as errors
use Rattle.describe.specs.Listing.{MOST, listing_number}
use Rattle.from_source.specs.Answer as answers
use Rattle.from_source.specs.Answer.{listing_answer, full_answer, TextRefusal, read_answer, buffer}
use Rattle.from_source.specs.Report.{listing_text}

-- ## The listing

abbrev pub written_of : Result ℕ Refusal → Result ℕ SourceError
written_of (Ok n) = Ok n
written_of (Err r) = Err (errors.Refused r)

-- ## The declaration

abbrev pub read_of : Result ItemAt Refusal → Result DataType SourceError
read_of (Ok i) = Ok i.kind
read_of (Err r) = Err (errors.Refused r)

abbrev pub kind_read : Kind → Result DataType SourceError
kind_read struct = Ok kinds.Struct
kind_read enum = Ok kinds.Enum

-- the answer, by the code's type
abbrev pub read_by : answers.Answer → Result DataType SourceError
read_by (answers.declared d rs) = kind_read d.kind
read_by (answers.fault_at offset) = Err (errors.FaultAt offset)
read_by (answers.refused n p) = Err (errors.Refused (record { number = n; place = p }))

-- the answer for a text s, and the whole role buffer, which was `before` and is `after`
pub record ReadAs (s before after : List ℕ) (r : Result DataType SourceError) : Type 0 where
  pub answer : r ≡ read_by (read_answer (length before) s)
  pub buffer : after ≡ buffer (length before) (read_answer (length before) s)
  -- what holds of a refusal
  pub refusal : (n p : ℕ) → read_answer (length before) s ≡ answers.refused n p → TextRefusal read_number s n p

-- read with a list of n bytes: a shorter one than a list may be has no room for some, and the role buffer stays
abbrev pub ReadWithin : ℕ → List ℕ → List ℕ → List ℕ → Option (Result DataType SourceError) → Type 0
ReadWithin n s before after (Some r) = ReadAs s before after r
ReadWithin n s before after None = (after ≡ before) × (n < MAX_BYTES)

-- ## The report

-- how long what is printed can be
abbrev pub at_most : Result ℕ SourceError → ℕ
at_most (Ok n) = n
at_most (Err e) = 128

-- the output was `before` and is `after`, and r bytes of it are printed
pub record ReportedListing (s before after : List ℕ) (r : ℕ) : Type 0 where
  pub printed : Printed before after r (listing_text s (listing_answer (length before) s))
  -- an output of MOST bytes has room for every listing, so the text is never that of refusal 8
  pub roomy : MOST ≤ length before → Printed before after r (listing_text s (full_answer s))
  pub short : r ≤ MOST
  -- what holds of a refusal that is printed
  pub refusal : (n p : ℕ) → listing_answer (length before) s ≡ refused n p → TextRefusal listing_number s n p
