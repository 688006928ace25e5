use mathlib.Core.Path.{◌≡◌, ap, ◌∙◌, sym}
use mathlib.Core.List.{List, [], ◌∷◌, ◌++◌}
use Prim.Native.Nat.{ℕ, suc, ◌+◌}
use borrow.Author.Tests.{leb-true}
use Prim.Native.Nat.{◌≤◌}
use native.Mathlib.Omega.{arith}
use lib.ListN.{length, set, length-append}
use lib.Seq.{sets}
use Rattle.token_list.specs.Byte.{SPACE, LF}
use Rattle.token_list.proofs.Stores.{sets_append}
use Rattle.output.specs.Contract.{Stored}
use Rattle.output.proofs.Appends.{appended_stored}
use Rattle.output.proofs.put.append_row.Goals as goal

abbrev row : ℕ → List ℕ → List ℕ
row kind t = kind ∷ SPACE ∷ t ++ LF ∷ []

row-long : (kind : ℕ) (t : List ℕ) → length (row kind t) ≡ length t + 3
row-long kind t = omega (arith, length-append t (LF ∷ []))

-- the row by its four stores
module _ (k : List ℕ) (i kind : ℕ) (t : List ℕ) where
  abbrev started : List ℕ
  started = set (set k i kind) (i + 1) SPACE

  row-stored : {l : List ℕ} → l ≡ sets started (i + 2) t
      → Stored k (set l (i + 2 + length t) LF) i (i + 2 + length t + 1) (row kind t)
  row-stored {l} e =
      let to : i + 2 ≡ suc (suc i) = omega arith in
      let one : i + 1 ≡ suc i = omega arith in
      let ended = ap (λ (x : List ℕ). set x (i + 2 + length t) LF) e in
      let moved = ap (λ (n : ℕ). sets (sets started n t) (n + length t) (LF ∷ [])) to in
      let first = ap (λ (n : ℕ). sets (set (set k i kind) n SPACE) (suc (suc i)) (t ++ LF ∷ [])) one in
      record {
        next = omega (arith, row-long kind t);
        bytes = ended ∙ moved ∙ sym (sets_append started (suc (suc i)) t (LF ∷ [])) ∙ first;
      }

pub returns : goal.returns
returns c =
    let room : c.args.at + (length c.args.text.now + 3) ≤ length c.args.out.now =
    leb-true _ _ (sym c.has_room.ensures ∙ c.if-not-has_room.false) in
    let stored = row-stored c.args.out.now c.args.at c.args.kind c.args.text.now c.copy_bytes.ensures in
    let long = row-long c.args.kind c.args.text.now in
    appended_stored (omega (arith, long, room)) stored
