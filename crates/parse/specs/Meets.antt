-- Every reader's contract: its answer is what the reading says, and the role buffer has the roles of what was taken.
use Rattle.std.specs.Prelude.{◌≡◌, List, ℕ, ◌+◌, ◌≤◌, ◌<◌, length, Result, Ok, Err}
use Rattle.std.proofs.Math.Seq.{slice}
use Rattle.std.proofs.lemmas.List.Edits.{sets}
use Rattle.token_list.specs.Stream.{Trees, at, row_start}
use Rattle.token_list.specs.Contract.{InList, TokenAt}
use Rattle.token_list.specs.declared.check.Cursor.{Cursor}
use Rattle.token_list.specs.declared.check.Refusal.{Refusal}
use Rattle.token_list.specs.declared.stream.Token.{Token}
use Rattle.parse.specs.declared.utils.Next.{Next}
use Rattle.parse.specs.declared.utils.Next.TheVariants.{One, Done}
use Rattle.reading.specs.Took.{Took, took, Cause, stopped, Reader, onward, gathered, Point}

-- from the cursor c to d, past rows with the roles rs, with us left of the stream; the role buffer before and after
pub record Moved (s : List ℕ) (c d : Cursor) (rs : List ℕ) (us : Trees) (before after : List ℕ) : Type 0 where
  pub in_list : InList s d
  pub row : d.row ≡ c.row + length rs
  pub forth : c.at + length rs ≤ d.at
  pub here : (at s d.at).here ≡ us
  pub outer : (at s d.at).outer ≡ (at s c.at).outer
  pub roles : after ≡ sets before c.row rs

-- what an answer says: where the reader stopped, or the refusal's number and place
pub data Said : Type 0 where
  on : Cursor → Said
  no : ℕ → ℕ → Said

-- the answer is what the reading says; `shown` is what the answer tells of the value
pub data Meets {A : Type 0} (s : List ℕ) (c : Cursor) (before after : List ℕ) (shown : A → Type 0)
    : Said → Took A → Type 0 where
  stands : {d : Cursor} {a : A} {rs : List ℕ} {us : Trees}
      → Moved s c d rs us before after → shown a → Meets s c before after shown (on d) (took a rs us)
  -- Which rows from the cursor's on were stored before the refusal is free, since `new` then fills every byte. The
  -- bytes before the cursor's row, and past the rows that were stored, are as they were.
  refuses : {w : Cause} {n p : ℕ} (stored : List ℕ) → after ≡ sets before c.row stored →
      Meets s c before after shown (no n p) (stopped w n p)

-- nothing is told of the value
abbrev pub any : {A : Type 0} → A → Type 0
any v = Unit {0}

abbrev pub refusal : Refusal → Said
refusal r = no r.number r.place

-- what a reader's answer says, where what it read ends at this cursor
abbrev pub said : {R : Type 0} → (R → Cursor) → Result R Refusal → Said
said end (Ok r) = on (end r)
said end (Err r) = refusal r

-- what a reader's answer tells of the value: a refusal stands for none
abbrev pub shown : {R A : Type 0} → (R → A → Type 0) → Result R Refusal → A → Type 0
shown f (Ok r) v = f r v
shown f (Err r) v = ⊥

-- the cursor after one thing, or after their end
abbrev pub next_of : {R E : Type 0} → (R → Cursor) → (E → Cursor) → Next R E → Cursor
next_of f g (One r) = f r
next_of f g (Done d) = g d

-- ## Where cursors and tokens stand

-- the stream at a cursor
abbrev pub stream : List ℕ → Cursor → Trees
stream s c = (at s c.at).here

abbrev pub point : List ℕ → Cursor → Point
point s c = record { row = c.row; stream = stream s c }

-- a cursor at this point, its offset where its row starts
pub record CursorAt (s : List ℕ) (x : Point) (c : Cursor) : Type 0 where
  pub in_list : InList s c
  pub here : point s c ≡ x

-- a token in this row
abbrev pub TokenIn : List ℕ → ℕ → Token → Type 0
TokenIn s row t = TokenAt s (row_start s row) t

-- past a token's own row
abbrev pub past_of : Cursor → Token → Cursor
past_of c t = record { at = t.next; row = c.row + 1 }

-- the text of a token
pub record TextOf (s : List ℕ) (t : Token) (text : List ℕ) : Type 0 where
  pub bytes : text ≡ slice t.start t.end s
  pub within : t.end ≤ length s

-- a reader at c takes, and gives the value xs
pub record InsideAt {A : Type 0} (m : Reader A) (s : List ℕ) (c : Cursor) (xs : A) : Type 0 where
  pub in_list : InList s c
  pub roles : List ℕ
  pub rest : Trees
  pub gives : m c.row (stream s c) ≡ took xs roles rest

-- ## Readers that go round

-- a part was taken between c and d, and the reading goes on there
pub record Belonged {A : Type 0} (s : List ℕ) (c d : Cursor) (before after : List ℕ) (was is : Took A) : Type 0 where
  pub roles : List ℕ
  pub moved : Moved s c d roles (stream s d) before after
  pub some : 0 < length roles
  pub same : was ≡ onward roles is

-- the same, where the part adds these things to what is read
pub record Gained {A : Type 0} (s : List ℕ) (c d : Cursor) (before after : List ℕ) (got : List A)
    (was is : Took (List A)) : Type 0 where
  pub roles : List ℕ
  pub moved : Moved s c d roles (stream s d) before after
  pub some : 0 < length roles
  pub same : was ≡ gathered got roles is
