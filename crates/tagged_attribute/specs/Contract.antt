-- What ties the code's answers and the role buffer to what is read of a tagged attribute.
use Rattle.std.specs.Prelude.{◌≡◌, Bool, true, false, List, [], ◌∷◌, ◌++◌, ℕ, ◌+◌, ◌-◌, ◌≤◌, ◌<◌, length}
use Rattle.std.specs.Prelude.{Option, Some, None, Result, Ok, Err}
use Rattle.std.proofs.lemmas.List.Edits.{sets}
use Rattle.std.proofs.Math.Seq.{slice}
use Rattle.token_list.specs.Layout.{first_row}
use Rattle.token_list.specs.Check.{check, passed}
use Rattle.token_list.specs.Stream.{Trees, at}
use Rattle.token_list.specs.Place.{OneRefusal}
use Rattle.token_list.specs.Contract.{InList}
use Rattle.token_list.specs.declared.check.Cursor.{Cursor}
use Rattle.token_list.specs.declared.check.Refusal.{Refusal}
use Rattle.token_list.specs.declared.stream.Token.{Token}
use Rattle.parse.specs.Contract.{stream, TextOf, TokenIn}
use Rattle.tagged_reading.specs.Role as role
use Rattle.tagged_reading.specs.Role.{others}
use Rattle.tagged_reading.specs.Entry.{Entry, property}
use Rattle.tagged_reading.specs.Reading.{Answer, none, read, refused, adding, entries, FIRST_ENTRY, before, attribute}
use Rattle.tagged_reading.specs.Reading.{tagged}
use Rattle.tagged_reading.specs.Answer as answers
use Rattle.tagged_attribute.specs.declared.entry.TagAt.{TagAt}
use Rattle.tagged_attribute.specs.declared.entry.PropertyAt.{PropertyAt}
use Rattle.tagged_attribute.specs.declared.entry.EntryAt.{EntryAt}
use Rattle.tagged_attribute.specs.declared.entry.EntryAt.TheVariants.{Tag, Property, Lost}
use Rattle.tagged_attribute.specs.declared.utils.EntriesAt.{EntriesAt}

-- ## One entry

abbrev pub token_text : List ℕ → Token → List ℕ
token_text s t = slice t.start t.end s

-- from the cursor c to d, n rows on in the same stream
pub record Onward (s : List ℕ) (c d : Cursor) (n : ℕ) : Type 0 where
  pub in_list : InList s d
  pub row : d.row ≡ c.row + n
  pub forth : c.at + n ≤ d.at
  pub outer : (at s d.at).outer ≡ (at s c.at).outer

-- the roles of the rows `from` up to `to`: the front ones, then others
abbrev pub part_roles : List ℕ → ℕ → ℕ → List ℕ
part_roles front from to = front ++ others (to - (from + length front))

-- between c and d stands what adds es, in rows with the roles rs, to what is read from d on
pub record Added (s : List ℕ) (c d : Cursor) (es : List Entry) (rs : List ℕ) (was : Answer) : Type 0 where
  pub onward : Onward s c d (length rs)
  pub some : 0 < length rs
  pub same : was ≡ adding es rs (entries d.row (stream s d))

abbrev pub tag_roles : List ℕ
tag_roles = role.tag ∷ []

abbrev pub property_roles : List ℕ
property_roles = role.key ∷ role.other ∷ role.value ∷ []

pub record TagRead (s : List ℕ) (c : Cursor) (was : Answer) (t : TagAt) : Type 0 where
  pub text : List ℕ
  pub tag : TextOf s t.tag text
  pub place : TokenIn s c.row t.tag
  pub added : Added s c t.next (Entry.tag text ∷ []) (part_roles tag_roles c.row t.next.row) was

pub record PropertyRead (s : List ℕ) (c : Cursor) (was : Answer) (p : PropertyAt) : Type 0 where
  pub name : List ℕ
  pub text : List ℕ
  pub key : TextOf s p.key name
  pub literal : TextOf s p.literal text
  pub key_place : TokenIn s c.row p.key
  pub literal_place : TokenIn s (c.row + 2) p.literal
  pub added : Added s c p.next (property name text ∷ []) (part_roles property_roles c.row p.next.row) was

-- what is read at c, by the answer
abbrev pub EntryRead : List ℕ → Cursor → Answer → Result (Option EntryAt) Refusal → Type 0
EntryRead s c was (Ok (Some (Tag t))) = TagRead s c was t
EntryRead s c was (Ok (Some (Property p))) = PropertyRead s c was p
EntryRead s c was (Ok (Some (Lost d))) = Added s c d [] (part_roles [] c.row d.row) was
EntryRead s c was (Ok None) = was ≡ read [] []
EntryRead s c was (Err r) = was ≡ refused r.number r.place

-- ## The entries

-- what is read of the entries from c on
abbrev pub entries_at : List ℕ → Cursor → Answer
entries_at s c = entries c.row (stream s c)

pub record Taken (s : List ℕ) (c d : Cursor) (n : ℕ) (b0 b1 : List ℕ) : Type 0 where
  pub es : List Entry
  pub rs : List ℕ
  pub count : n ≡ length es
  pub one : n ≤ 1
  pub added : Added s c d es rs (entries_at s c)
  pub roles : b1 ≡ sets b0 c.row rs

abbrev pub TakeRead : List ℕ → Cursor → List ℕ → List ℕ → Result (Option (Cursor × ℕ)) Refusal → Type 0
TakeRead s c b0 b1 (Ok (Some (d, n))) = Taken s c d n b0 b1
TakeRead s c b0 b1 (Ok None) = (entries_at s c ≡ read [] []) × (b1 ≡ b0)
TakeRead s c b0 b1 (Err r) = (entries_at s c ≡ refused r.number r.place) × (b1 ≡ b0)

-- all entries from c on: they end at d, and there are n of them
pub record EntriesRead (s : List ℕ) (c d : Cursor) (n : ℕ) (b0 b1 : List ℕ) : Type 0 where
  pub es : List Entry
  pub rs : List ℕ
  pub same : entries_at s c ≡ read es rs
  pub count : n ≡ length es
  pub row : d.row ≡ c.row + length rs
  pub roles : b1 ≡ sets b0 c.row rs

-- Which rows were marked before a refusal is free, since every byte is filled then.
abbrev pub EnteredAs : List ℕ → Cursor → List ℕ → List ℕ → Result (Cursor × ℕ) Refusal → Type 0
EnteredAs s c b0 b1 (Ok (d, n)) = EntriesRead s c d n b0 b1
EnteredAs s c b0 b1 (Err r) = entries_at s c ≡ refused r.number r.place

-- ## Where the entries begin

-- the stream of all rows
abbrev pub listed : List ℕ → Trees
listed s = (at s (first_row s)).here

-- the list passed the check
abbrev pub Passed : List ℕ → Type 0
Passed s = (rows : ℕ) × (check s ≡ passed rows)

-- the inside of the one group, whatever the prefix
pub record GroupAlone (s : List ℕ) (d : Cursor) : Type 0 where
  pub in_list : InList s d
  pub row : d.row ≡ 1
  pub same : (prefix : List ℕ) → tagged prefix (listed s) ≡ attribute prefix (stream s d)

abbrev pub AloneAs : List ℕ → Result Cursor Refusal → Type 0
AloneAs s (Ok d) = GroupAlone s d
AloneAs s (Err r) = (prefix : List ℕ) → tagged prefix (listed s) ≡ refused r.number r.place

-- the entries at a cursor, with so many rows behind them, are what is read
pub record EntriesFrom (s : List ℕ) (was : Answer) (d : Cursor) : Type 0 where
  pub in_list : InList s d
  pub row : d.row ≡ FIRST_ENTRY
  pub behind : ℕ
  pub same : was ≡ adding [] (others FIRST_ENTRY) (before behind (entries_at s d))

abbrev pub FoundAt : List ℕ → Answer → Option Cursor → Type 0
FoundAt s was (Some d) = EntriesFrom s was d
FoundAt s was None = was ≡ none

abbrev pub FoundAs : List ℕ → Answer → Result (Option Cursor) Refusal → Type 0
FoundAs s was (Ok found) = FoundAt s was found
FoundAs s was (Err r) = was ≡ refused r.number r.place

-- ## The whole answer

-- how many entries there are, where they are read, and how many rows have a role
pub record EntriesOf (s : List ℕ) (e : EntriesAt) (es : List Entry) (rs : List ℕ) : Type 0 where
  pub count : e.count ≡ length es
  pub rows : e.rows ≡ length rs
  pub in_list : InList s e.first
  pub row : e.first.row ≡ FIRST_ENTRY
  pub roles : List ℕ
  pub same : entries_at s e.first ≡ read es roles

-- the answer of the code
abbrev pub TaggedAs : List ℕ → Result (Option EntriesAt) Refusal → Answer → Type 0
TaggedAs s (Ok None) none = Unit {0}
TaggedAs s (Ok None) (read es rs) = ⊥
TaggedAs s (Ok None) (refused n p) = ⊥
TaggedAs s (Ok (Some e)) none = ⊥
TaggedAs s (Ok (Some e)) (read es rs) = EntriesOf s e es rs
TaggedAs s (Ok (Some e)) (refused n p) = ⊥
TaggedAs s (Err r) none = ⊥
TaggedAs s (Err r) (read es rs) = ⊥
TaggedAs s (Err r) (refused n p) = (r.number ≡ n) × (r.place ≡ p)

abbrev pub reads : Result (Option EntriesAt) Refusal → Bool
reads (Ok None) = false
reads (Ok (Some e)) = true
reads (Err r) = false

-- the whole answer for a prefix and a list s, with the role bytes of the entries that are read
pub record Marked (prefix s : List ℕ) (r : Result (Option EntriesAt) Refusal) (b0 b1 : List ℕ) : Type 0 where
  pub answer : TaggedAs s r (answers.answer prefix s (length b0))
  pub buffer : reads r ≡ true → b1 ≡ answers.buffer (length b0) (answers.answer prefix s (length b0))

-- the same, what holds of a refusal, and the whole role buffer
pub record Answered (prefix s : List ℕ) (r : Result (Option EntriesAt) Refusal) (b0 b1 : List ℕ) : Type 0 where
  pub answer : TaggedAs s r (answers.answer prefix s (length b0))
  pub refusal : (n p : ℕ) → answers.answer prefix s (length b0) ≡ refused n p →
      OneRefusal answers.tagged_number s n p
  pub buffer : b1 ≡ answers.buffer (length b0) (answers.answer prefix s (length b0))
