-- What the replay keeps from section to section.
use Rattle.std.specs.Prelude.{Bool, cond, ℕ, ◌+◌, ◌-◌, ◌≤◌, min, ltb}
use Rattle.replay.specs.Window.{Within, size, advanced}
use Rattle.replay.specs.declared.window.Window.{Window}
use Rattle.replay.specs.declared.state.State.{State}
use Rattle.replay.specs.declared.state.Counts.{Counts}
use Rattle.replay.specs.declared.header.Topic.{Topic}
use Rattle.replay.specs.declared.header.Topic.TheVariants.{Check, Roles, Every, Listing, Tagged, Generics}

-- the unread bytes stand in a buffer of n, the list in one of m
pub record Placed (n m : ℕ) (s : State) : Type 0 where
  pub unread : Within n s.at
  pub list : s.list ≤ m

-- the largest usize
abbrev pub MAX_USIZE : ℕ
MAX_USIZE = 18446744073709551615

-- one more; the largest usize stays
abbrev pub more : ℕ → ℕ
more n = cond (ltb n MAX_USIZE) (n + 1) n

-- one more where the answer is not right
abbrev pub differing : Bool → ℕ → ℕ
differing ok n = cond ok n (more n)

-- the seven counts
abbrev pub tally : ℕ → ℕ → ℕ → ℕ → ℕ → ℕ → ℕ → Counts
tally checks roles everys listings taggeds generics differences =
    record {
      checks = checks;
      roles = roles;
      everys = everys;
      listings = listings;
      taggeds = taggeds;
      generics = generics;
      differences = differences;
    }

-- an answer about a topic is one more of its own, and a difference exactly where it is not right
abbrev pub counted : Counts → Topic → Bool → Counts
counted n Check ok =
    tally (more n.checks) n.roles n.everys n.listings n.taggeds n.generics
    (differing ok n.differences)
counted n Roles ok =
    tally n.checks (more n.roles) n.everys n.listings n.taggeds n.generics
    (differing ok n.differences)
counted n Every ok =
    tally n.checks n.roles (more n.everys) n.listings n.taggeds n.generics
    (differing ok n.differences)
counted n Listing ok =
    tally n.checks n.roles n.everys (more n.listings) n.taggeds n.generics
    (differing ok n.differences)
counted n Tagged ok =
    tally n.checks n.roles n.everys n.listings (more n.taggeds) n.generics
    (differing ok n.differences)
counted n (Generics w) ok =
    tally n.checks n.roles n.everys n.listings n.taggeds (more n.generics)
    (differing ok n.differences)

-- nothing is read, and nothing counted
abbrev pub START : State
START = record { at = record { from = 0; to = 0 }; skip = 0; list = 0; cases = 0; counts = tally 0 0 0 0 0 0 0 }

-- the same with other unread bytes
abbrev pub moved : Window → State → State
moved w s = record { at = w; skip = s.skip; list = s.list; cases = s.cases; counts = s.counts }

-- the same with n bytes to pass over
abbrev pub skipping : ℕ → State → State
skipping n s = record { at = s.at; skip = n; list = s.list; cases = s.cases; counts = s.counts }

-- n of them passed over
abbrev pub skipped : ℕ → State → State
skipped n s = skipping (s.skip - n) (moved (advanced n s.at) s)

-- as many of them as are unread
abbrev pub passed : State → State
passed s = skipped (min s.skip (size s.at)) s
