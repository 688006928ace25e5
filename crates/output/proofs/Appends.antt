-- Texts that are appended one after the other, as far as each fits.
use mathlib.Core.Path.{◌≡◌, refl, sym, ap, ◌∙◌, subst}
use mathlib.Core.List.{List, [], ◌++◌}
use Prim.Native.Nat.{ℕ, ◌+◌, ◌≤◌, ◌<◌}
use native.Mathlib.Omega.{arith}
use native.Mathlib.Decide.{dec_le}
use lib.ListN.{length, take, length-append}
use lib.Seq.{sets, length-sets}
use Rattle.token_list.proofs.Stores.{sets_append}
use Rattle.output.specs.Contract.{Stored, Appended}
use Rattle.output.proofs.Texts.{printed_shown}

pub appended_none : {l : List ℕ} {i : ℕ} → Appended l l i i []
appended_none = record {
  kept = refl;
  room = λ h. record { next = omega arith; bytes = refl };
  full = λ h. omega arith;
}

-- a text that was stored
pub appended_stored : {k l s : List ℕ} {h i : ℕ} → h + length s ≤ length k → Stored k l h i s → Appended k l h i s
appended_stored {k} {l} {s} {h} fits p = record {
  kept = ap length p.bytes ∙ length-sets k h s;
  room = λ _. p;
  full = λ over. absurd (omega arith);
}

-- the same text by another name
pub appended_as : {k l s t : List ℕ} {h i : ℕ} → s ≡ t → Appended k l h i s → Appended k l h i t
appended_as {k} {l} {s} {t} {h} {i} e p = subst (λ (x : List ℕ). Appended k l h i x) e p

module _ {k l m s t : List ℕ} {h i j : ℕ} where
  stored_join : Stored k l h i s → Stored l m i j t → Stored k m h j (s ++ t)
  stored_join p q =
      let moved = ap (λ (x : List ℕ). sets x i t) p.bytes ∙ ap (λ (n : ℕ). sets (sets k h s) n t) p.next in
      record {
        next = omega (arith, length-append s t);
        bytes = q.bytes ∙ moved ∙ sym (sets_append k h s t);
      }

  pub appended_join : Appended k l h i s → Appended l m i j t → Appended k m h j (s ++ t)
  appended_join p q =
      let both = length-append s t in
      record {
        kept = q.kept ∙ p.kept;
        room = λ fits.
            let first = p.room (omega arith) in
            stored_join first (q.room (omega (arith, first.next)));
        full = λ over. past (dec_le (h + length s) (length k)) (omega arith);
      }
    where
      past : Dec (h + length s ≤ length k) → length k < h + length s + length t → length k < j
      past (yes fits) over = omega (arith, q.full (omega (arith, (p.room fits).next)))
      past (no over_first) over = omega (arith, q.full (omega (arith, p.full (omega arith))))

-- the whole text, where the output has room for it
pub appended_shown : {k l s : List ℕ} {i : ℕ} → Appended k l 0 i s → length s ≤ length l → take (length s) l ≡ s
appended_shown p fits =
    let stored = p.room (omega (arith, p.kept)) in
    printed_shown (record { counted = refl; bytes = stored.bytes }) (omega (arith, p.kept))
