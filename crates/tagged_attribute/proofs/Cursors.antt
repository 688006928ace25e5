-- Laws on cursors that stand some rows apart in one stream, and on the tokens there.
use mathlib.Core.Path.{◌≡◌, ap, ◌∙◌, subst, subst⁻¹}
use mathlib.Core.List.{List, []}
use Prim.Native.Nat.{ℕ, ◌+◌}
use native.Mathlib.Omega.{arith}
use lib.ListN.{length-replicate}
use Rattle.token_list.specs.Stream.{head, at}
use Rattle.token_list.specs.Contract.{InList, TokenAt, LeafAt, GroupAt, Skipped, skipped}
use Rattle.token_list.specs.declared.check.Cursor.{Cursor}
use Rattle.token_list.specs.declared.stream.Token.{Token}
use Rattle.token_list.proofs.Streams.{skipped_open}
use Rattle.reading.specs.Token.{group_size}
use Rattle.parse.specs.Contract.{past_of, stream, TokenIn}
use Rattle.parse.proofs.Meeting.{leaf_moved, group_moved, follows_of}
use Rattle.tagged_attribute.specs.Contract.{Onward}

module _ {s : List ℕ} where
  pub onward_leaf : {c d : Cursor} {t : Token} → InList s c → LeafAt s c.at t → d ≡ past_of c t → Onward s c d 1
  onward_leaf {c} {d} {t} i l e =
      let m = leaf_moved s c t i [] 0 l in
      subst⁻¹ (λ (x : Cursor). Onward s c x 1) e
      (record { in_list = m.in_list; row = m.row; forth = m.forth; outer = m.outer })

  -- past a group_size group, and the stream there
  pub onward_group : {c d e : Cursor} {t : Token} → InList s c → GroupAt s c.at t → d ≡ past_of c t
      → skipped (at s d.at).outer s d e
      → Onward s c e (group_size (at s t.next).here) × (stream s e ≡ head (at s t.next).outer)
  onward_group {c} {d} {e} {t} i g p k =
      let inside = (at s t.next).here in
      let open-group = skipped_open s d e (follows_of s c d t p i g) k in
      let m = group_moved s c t i [] 0 e g (subst (λ (x : Cursor). Skipped s x e) p open-group) in
      let l = length-replicate {A = ℕ} (group_size inside) 0 in (
        record {
          in_list = m.in_list;
          row = omega (arith, m.row, l);
          forth = omega (arith, m.forth, l);
          outer = m.outer;
        },
        m.here,
      )

  pub onward_then : {c d e : Cursor} {n m : ℕ} → Onward s c d n → Onward s d e m → Onward s c e (n + m)
  onward_then o p =
      record {
        in_list = p.in_list;
        row = omega (arith, o.row, p.row);
        forth = omega (arith, o.forth, p.forth);
        outer = p.outer ∙ o.outer;
      }

  -- a token at a cursor is in its row
  pub token_in : {c : Cursor} {t : Token} → InList s c → TokenAt s c.at t → TokenIn s c.row t
  token_in {c} {t} i k = subst (λ (a : ℕ). TokenAt s a t) i.starts k

-- the stream after a token
pub stream_past : (s : List ℕ) (c d : Cursor) (t : Token) → d ≡ past_of c t → stream s d ≡ (at s t.next).here
stream_past s c d t e = ap (λ (x : Cursor). stream s x) e
