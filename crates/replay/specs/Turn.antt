-- What becomes of the replay's state in a turn: a section, or a part of one that is passed over.
use Rattle.std.specs.Prelude.{◌≡◌, Bool, cond, ◌||◌, List, ℕ, eqb, ltb, length, take, Option, Some, None}
use Rattle.std.specs.Option.{option_map}
use Rattle.std.proofs.lemmas.List.Edits.{sets}
use Rattle.replay.specs.Window.{unread, size, advanced, Ready}
use Rattle.replay.specs.Header.{header}
use Rattle.replay.specs.Answer.{right}
use Rattle.replay.specs.State.{more, counted, moved, skipping, passed}
use Rattle.replay.specs.declared.window.Window.{Window}
use Rattle.replay.specs.declared.state.State.{State}
use Rattle.replay.specs.declared.header.Topic.{Topic}
use Rattle.replay.specs.declared.header.Section.{Section}
use Rattle.replay.specs.declared.header.Section.TheVariants.{List as Listed, Answer, Other}
use Rattle.replay.specs.declared.header.Header.{Header}
use Rattle.replay.specs.declared.Turn.{Turn}
use Rattle.replay.specs.declared.Turn.TheVariants.{On, Done}
use Rattle.replay.specs.declared.Next.{Next}
use Rattle.replay.specs.declared.Next.TheVariants.{Over, Take, Compare}

-- ## A section, of which n bytes are asked for

-- the first n unread bytes of the buffer b
abbrev pub section : ℕ → List ℕ → State → List ℕ
section n b s = take n (unread b s.at)

-- a list that has no room in m bytes, or whose bytes are not all there
abbrev pub untaken : ℕ → State → ℕ → Bool
untaken m s n = ltb m n || ltb (size s.at) n

-- a list: a new case
abbrev pub taken : ℕ → State → ℕ → Option State
taken m s n =
    cond (untaken m s n) None
    (Some (record { at = advanced n s.at; skip = s.skip; list = n; cases = more s.cases; counts = s.counts }))

-- the buffer l of the list, and what it held past the list stays
abbrev pub list_after : List ℕ → List ℕ → State → ℕ → List ℕ
list_after b l s n = cond (untaken (length l) s n) l (sets l 0 (section n b s))

-- an answer to the list l about a topic, counted as right or not; before the first list there is none
abbrev pub compared : List ℕ → List ℕ → State → Topic → ℕ → Option State
compared b l s t n =
    cond (eqb s.cases 0 || ltb (size s.at) n) None
    (Some (record {
      at = advanced n s.at;
      skip = s.skip;
      list = s.list;
      cases = s.cases;
      counts = counted s.counts t (right t (take s.list l) (section n b s));
    }))

-- ## What a turn goes on to, once bytes for a header are there

-- the same with the unread bytes from `start` on
abbrev pub resumed : ℕ → State → State
resumed start s = moved (record { from = start; to = s.at.to }) s

-- what a section of n bytes asks for, where the state is s
abbrev pub asked : State → Section → ℕ → Next
asked s Listed n = Take s n
asked s (Answer t) n = Compare s t n
asked s Other n = Over (On (skipping n s))

-- a header, whose section starts where it says
abbrev pub begun : State → Header → Next
begun s h = asked (resumed h.start s) h.section h.size

-- the input's end, which must not be within a section; a part of what is passed over; or a header
abbrev pub sought : List ℕ → State → Option Next
sought b s =
    cond (eqb s.at.from s.at.to) (cond (ltb 0 s.skip) None (Some (Over (Done s))))
    (cond (ltb 0 s.skip) (Some (Over (On (passed s)))) (option_map (begun s) (header s.at.from (unread b s.at))))

-- ## A whole turn

-- so many bytes are asked for before a header is read
abbrev pub HEADER : ℕ
HEADER = 64

-- the buffers were b and l and are c and m, and the turn is r; a section's bytes are read first, and stand at w
abbrev pub follows : List ℕ → List ℕ → List ℕ → List ℕ → Option Turn → Option Next → Type 0
follows b c l m r None = (r ≡ None) × (c ≡ b) × (m ≡ l)
follows b c l m r (Some (Over t)) = (r ≡ Some t) × (c ≡ b) × (m ≡ l)
follows b c l m r (Some (Take s n)) =
    (w : Window) × Ready b c n s.at w × (r ≡ option_map On (taken (length l) (moved w s) n))
    × (m ≡ list_after c l (moved w s) n)
follows b c l m r (Some (Compare s t n)) =
    (w : Window) × Ready b c n s.at w × (r ≡ option_map On (compared c l (moved w s) t n)) × (m ≡ l)

-- A turn from s: all of it follows from the bytes that are read, and free are only these (Window).
pub record Stepped (b c l m : List ℕ) (s : State) (r : Option Turn) : Type 0 where
  -- the buffer once bytes for a header are read, and where they stand in it
  pub filled : List ℕ
  pub window : Window
  pub ready : Ready b filled HEADER s.at window
  pub next : follows filled c l m r (sought filled (moved window s))
