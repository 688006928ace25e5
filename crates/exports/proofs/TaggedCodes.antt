-- The number of the answer about a tagged attribute.
use mathlib.Core.Path.{◌≡◌, refl}
use mathlib.Core.List.{List}
use Prim.Native.Nat.{ℕ, ◌≤◌}
use native.Mathlib.Omega.{arith}
use Rattle.token_list.specs.Place.{OneRefusal}
use Rattle.tagged_reading.specs.Reading as tagged
use Rattle.tagged_reading.specs.Answer.{answer, tagged_number}
use Rattle.tagged_reading.proofs.Promise.{answer-refusal}
use Rattle.tagged_attribute.specs.Contract.{TaggedAs}
use Rattle.tagged_attribute.specs.declared.utils.EntriesAt.{EntriesAt}
use Rattle.token_list.specs.declared.check.Refusal.{Refusal}
use Rattle.std.specs.Prelude.{Option, Some, None, Result, Ok, Err, is_some}
use mir.Val.{bool_byte}
use Rattle.exports.specs.Code.{refusal, answer_case, tagged_case}
use Rattle.exports.proofs.Codes.{Told, small, one, from_one, place_low, numbered}

pub tagged_small : {s : List ℕ} {n p : ℕ} → OneRefusal tagged_number s n p → (1 ≤ n) × (p ≤ 65535)
tagged_small {n = n} o = (from_one tagged_number refl n o.one, place_low o)

pub tagged_told : (prefix s : List ℕ) (room : ℕ) → Told tagged_number s (tagged_case (answer prefix s room))
tagged_told prefix s room = go (answer prefix s room) refl
  where
    go : (a : tagged.Answer) → answer prefix s room ≡ a → Told tagged_number s (tagged_case a)
    go tagged.none e = small {v = 0} (omega arith)
    go (tagged.read es rs) e = small {v = 1} (omega arith)
    go (tagged.refused n p) e = let o = answer-refusal prefix s room n p e in one (tagged_small o).0 o

-- the code's answer
pub tagged_same : (s : List ℕ) (r : Result (Option EntriesAt) Refusal) (a : tagged.Answer) → TaggedAs s r a →
    answer_case (numbered (λ o. bool_byte (is_some o)) r) ≡ tagged_case a
tagged_same s (Ok None) tagged.none h = refl
tagged_same s (Ok None) (tagged.read es rs) h = absurd h
tagged_same s (Ok None) (tagged.refused n p) h = absurd h
tagged_same s (Ok (Some e)) tagged.none h = absurd h
tagged_same s (Ok (Some e)) (tagged.read es rs) h = refl
tagged_same s (Ok (Some e)) (tagged.refused n p) h = absurd h
tagged_same s (Err r) tagged.none h = absurd h
tagged_same s (Err r) (tagged.read es rs) h = absurd h
tagged_same s (Err r) (tagged.refused n p) h = λ i. refusal (h.0 i) (h.1 i)
