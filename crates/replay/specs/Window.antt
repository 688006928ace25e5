-- The unread bytes of the input, in a buffer.
use Rattle.std.specs.Prelude.{◌≡◌, Bool, true, false, List, ℕ, ◌+◌, ◌-◌, ◌≤◌, leb, length, take}
use Rattle.std.proofs.Math.Seq.{slice}
use Rattle.replay.specs.declared.window.Window.{Window}

-- they stand in a buffer of n bytes
pub record Within (n : ℕ) (w : Window) : Type 0 where
  pub order : w.from ≤ w.to
  pub room : w.to ≤ n

abbrev pub unread : List ℕ → Window → List ℕ
unread b w = slice w.from w.to b

-- how many there are
abbrev pub size : Window → ℕ
size w = w.to - w.from

-- past the first n
abbrev pub advanced : ℕ → Window → Window
advanced n w = record { from = w.from + n; to = w.to }

-- The buffer was `before` with the unread bytes at v, and is `after` with them at w: they are still there, now at the
-- buffer's start. Free is what the operating system gives: how many bytes follow them, and which.
pub record ReadOn (before after : List ℕ) (v w : Window) : Type 0 where
  pub start : w.from ≡ 0
  pub kept : take (size v) after ≡ unread before v
  pub order : size v ≤ w.to
  pub room : w.to ≤ length after

-- where there are enough, nothing changes
abbrev pub readied : Bool → List ℕ → List ℕ → Window → Window → Type 0
readied true before after v w = (after ≡ before) × (w ≡ v)
readied false before after v w = ReadOn before after v w

-- n bytes are asked for
abbrev pub Ready : List ℕ → List ℕ → ℕ → Window → Window → Type 0
Ready before after n v w = readied (leb n (size v)) before after v w
