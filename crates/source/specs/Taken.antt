-- What a production takes of the bytes that are left.
use Rattle.std.specs.Prelude.{Bool, cond, List, [], ◌∷◌, ℕ, ◌+◌}

-- the first so many bytes, or it stands there in no form
pub data Taken : Type 0 where
  takes : ℕ → Taken
  fault : Taken

-- n bytes before it
abbrev pub after : ℕ → Taken → Taken
after n (takes k) = takes (n + k)
after n fault = fault

-- go on behind it
abbrev pub onward : Taken → (ℕ → Taken) → Taken
onward (takes n) go = go n
onward fault go = fault

-- how many bytes at the front pass a test
abbrev pub run : (ℕ → Bool) → List ℕ → ℕ
run p [] = 0
run p (b ∷ bs) = cond (p b) (1 + run p bs) 0
