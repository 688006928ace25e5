-- What ties the written lines to what is read of a tagged attribute.
use Rattle.std.specs.Prelude.{◌≡◌, List, [], ℕ, ◌≤◌, length, Option, Some, None}
use Rattle.token_list.specs.Layout.{MAX_ROWS}
use Rattle.token_list.specs.Place.{OneRefusal}
use Rattle.token_list.specs.declared.check.Cursor.{Cursor}
use Rattle.token_list.specs.declared.stream.Token.{Token}
use Rattle.output.specs.Contract.{Printed}
use Rattle.output.specs.Writes.{Writes}
use Rattle.output.specs.declared.writer.Writer.{Writer}
use Rattle.tagged_reading.specs.Entry.{Entry}
use Rattle.tagged_reading.specs.Reading.{read, refused}
use Rattle.tagged_reading.specs.Answer as answers
use Rattle.tagged_attribute.specs.Contract.{Added, entries_at}
use Rattle.tagged_attribute.specs.Listing.{entry_lines, answer_text, MOST}

-- a token whose text stands in the list
pub record Readable (s : List ℕ) (t : Token) : Type 0 where
  pub forth : t.start ≤ t.end
  pub within : t.end ≤ length s

-- what was written for the entry at c, by a writer that was x and is y
pub record LineAt (s : List ℕ) (c d : Cursor) (x y : Writer) : Type 0 where
  pub es : List Entry
  pub rs : List ℕ
  pub added : Added s c d es rs (entries_at s c)
  pub writes : Writes x y (entry_lines es)

-- no more entries: there are none, or one is refused
pub record NoLine (s : List ℕ) (c : Cursor) (x y : Writer) : Type 0 where
  pub none : (es : List Entry) (rs : List ℕ) → entries_at s c ≡ read es rs → es ≡ []
  pub kept : y ≡ x

abbrev pub LineRead : List ℕ → Cursor → Writer → Writer → Option Cursor → Type 0
LineRead s c x y (Some d) = LineAt s c d x y
LineRead s c x y None = NoLine s c x y

-- the report of a prefix and a list s: the text of the answer, in an output that was x and is y, with role bytes that
-- were b0 and are b1
pub record Reported (prefix s b0 b1 x y : List ℕ) (r : ℕ) : Type 0 where
  pub text : Printed x y r (answer_text (answers.answer prefix s (length b0)))
  -- an output of MOST bytes has room for every text
  pub short : r ≤ MOST
  -- with a role byte for each row that a list may have the text is never that of refusal 8
  pub roomy : MAX_ROWS ≤ length b0 → (p : ℕ) → answers.answer prefix s (length b0) ≡ refused 8 p → ⊥
  pub refusal : (n p : ℕ) → answers.answer prefix s (length b0) ≡ refused n p → OneRefusal answers.tagged_number s n p
  pub buffer : b1 ≡ answers.buffer (length b0) (answers.answer prefix s (length b0))
