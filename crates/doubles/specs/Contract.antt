-- What ties keys and the table of keys to their definitions.
use Rattle.std.specs.Prelude.{◌≡◌, Bool, true, false, List, [], ◌∷◌, ◌++◌, ℕ, ◌+◌, ◌*◌, ◌%◌, ◌≤◌, ◌<◌, ℤ, pos, neg_ℤ}
use Rattle.std.specs.Prelude.{length, get_or, set}
use Rattle.std.proofs.Math.Seq.{slice}
use Rattle.token_list.specs.Byte.{MINUS}
use Rattle.doubles.specs.Double.{stands}
use Rattle.doubles.specs.Same.{bare}
use Rattle.doubles.specs.Key.{Key, same_key}
use Rattle.doubles.specs.declared.key.KeyAt.{KeyAt}

-- ## Keys

-- the text of which an integer's sign is the first byte or nothing
abbrev pub MINUS_SIGN : List ℕ
MINUS_SIGN = MINUS ∷ []

-- an integer of this size, below 0 or not
abbrev pub signed : Bool → ℕ → ℤ
signed true n = neg_ℤ (pos n)
signed false n = pos n

-- r is where the name from start to end begins without its `r#`
pub record BareAt (s : List ℕ) (start end r : ℕ) : Type 0 where
  pub text : slice r end s ≡ bare (slice start end s)
  pub order : r ≤ end

-- the key that the code tells of these bytes
abbrev pub key_of : List ℕ → KeyAt → Key
key_of s k = record { text = slice k.start k.end s; number = k.number }

-- it is this one, and its text ends by e
pub record KeyIn (s : List ℕ) (e : ℕ) (x : Key) (r : KeyAt) : Type 0 where
  pub key : key_of s r ≡ x
  pub order : r.start ≤ r.end
  pub within : r.end ≤ e

-- its text is a part of the bytes, and its offsets have 16 bits
pub record Standing (s : List ℕ) (k : KeyAt) : Type 0 where
  pub order : k.start ≤ k.end
  pub within : k.end ≤ length s
  pub low : k.end < 65536

-- ## The table

-- where the words of the key at position j begin, in a table with room for so many
abbrev pub words_at : ℕ → ℕ → ℕ
words_at room j = room + 3 * j

abbrev pub key_at : List ℕ → List ℕ → List ℕ → ℕ → Key
key_at s words numbers j = record {
  text = slice (get_or words (words_at (length numbers) j) 0) (get_or words (words_at (length numbers) j + 1) 0) s;
  number = get_or numbers j 0;
}

-- where there is none
abbrev pub NO_KEY : Key
NO_KEY = record { text = []; number = 0 }

-- the remainder of the number of the key at position j
abbrev pub remainder : ℕ → List Key → ℕ → ℕ
remainder room ks j = (get_or ks j NO_KEY).number % room

-- a link to the last of the keys before position n whose numbers have the remainder h
pub record Last (room : ℕ) (ks : List Key) (h n link : ℕ) : Type 0 where
  pub low : link ≤ n
  pub none : (i : ℕ) → link ≤ i → i < n → remainder room ks i ≡ h → ⊥
  pub one : (i : ℕ) → link ≡ i + 1 → remainder room ks i ≡ h

-- the table holds these keys
pub record Holds (s words numbers : List ℕ) (ks : List Key) : Type 0 where
  pub size : length words ≡ 4 * length numbers
  pub few : length numbers < 65536
  pub room : length ks ≤ length numbers
  pub key : (j : ℕ) → j < length ks → key_at s words numbers j ≡ get_or ks j NO_KEY
  pub last : (h : ℕ) → h < length numbers → Last (length numbers) ks h (length ks) (get_or words h 0)
  pub before : (j : ℕ) → j < length ks →
      Last (length numbers) ks (remainder (length numbers) ks j) j (get_or words (words_at (length numbers) j + 2) 0)

-- a key is put at position n
pub record Added (words₀ words₁ numbers₀ numbers₁ : List ℕ) (k : KeyAt) (n : ℕ) : Type 0 where
  pub number : numbers₁ ≡ set numbers₀ n k.number
  pub words : words₁ ≡
      (let room = length numbers₀ in
      let at = words_at room n in
      let h = k.number % room in
      set (set (set (set words₀ at k.start) (at + 1) k.end) (at + 2) (get_or words₀ h 0)) h (n + 1))

-- whether the key x is one of ks; and the table holds it after them
pub record Seen (s words numbers : List ℕ) (x : Key) (ks : List Key) (r : Bool) : Type 0 where
  pub told : r ≡ stands same_key x ks
  pub holds : Holds s words numbers (ks ++ x ∷ [])
