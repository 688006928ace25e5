-- Laws on attributes, a `#` at a time.
use mathlib.Core.Path.{◌≡◌, refl, ap, ◌∙◌, sym}
use mathlib.Core.Bool.{true}
use mathlib.Core.List.{List, [], ◌∷◌}
use Prim.Native.Nat.{ℕ, ◌+◌}
use native.Mathlib.Omega.{arith}
use borrow.Author.Tests.{eq-eqb}
use lib.ListN.{length, set, length-replicate}
use Rattle.token_list.specs.Byte.{BRACKET, HASH}
use Rattle.token_list.specs.Stream.{Trees, head, at}
use Rattle.token_list.specs.Contract.{InList, LeafAt, GroupAt, row_of}
use Rattle.token_list.specs.declared.check.Cursor.{Cursor}
use Rattle.token_list.specs.declared.stream.Token.{Token}
use Rattle.token_list.proofs.Texts.{chosen}
use Rattle.reading.specs.Took.{Took, onward, gathered}
use Rattle.reading.specs.Token.{starts}
use Rattle.reading.specs.Reading.{is_punct, attributes, after_hash, copied, group_size}
use Rattle.parse.specs.Contract.{Moved, stream, past_of, Gained}
use Rattle.parse.proofs.Loops.{gathered-onward, gathered_one}
use Rattle.parse.proofs.Meeting.{stands-row, leaf_taken, leaf_then, moved_on, group_stream}

module _ (s : List ℕ) (c : Cursor) (in_list : InList s c) (t : Token) (l : LeafAt s c.at t) where
  abbrev here : Took (List Trees)
  here = attributes c.row (stream s c)

  module _ (e : starts (is_punct HASH) (stream s c) ≡ true) (d : Cursor) (p : d ≡ past_of c t) where
    past_hash : (us : Trees) → stream s d ≡ us → here ≡ after_hash c.row us
    past_hash us q = ap (attributes c.row) (leaf_then s c d t us l p q) ∙ chosen _ _ _ (stands-row HASH l e)

    below : d.row ≡ c.row + 1
    below = ap (λ (x : Cursor). x.row) p

    module _ (q : Token) (n : LeafAt s d.at q) where
      pub hash-idle : (b0 b1 : List ℕ) → b1 ≡ set b0 c.row 3 → is_punct HASH (row_of s q) ≡ true →
          Gained s c d b0 b1 [] here (attributes d.row (stream s d))
      hash-idle b0 b1 w f =
          record {
            roles = 3 ∷ [];
            moved = leaf_taken attributes s c in_list (λ x. Unit) t l d b0 b1 3 p w;
            some = omega arith;
            same = past_hash _ n.here ∙ chosen _ _ _ f ∙ sym
                (ap (onward (3 ∷ [])) ((λ i. attributes (below i) (n.here i)) ∙ chosen _ _ _ f)) ∙
                gathered-onward (3 ∷ []) (attributes d.row (stream s d));
          }

    module _ (q : Token) (k : InList s d) (g : GroupAt s d.at q) where
      abbrev ins : Trees
      ins = (at s q.next).here

      abbrev aft : Trees
      aft = head (at s q.next).outer

      pub hash-group : (b0 b1 b2 : List ℕ) (x : Cursor) → q.byte ≡ BRACKET → b1 ≡ set b0 c.row 1 →
          Moved s d x (copied 2 ins) aft b1 b2
          → Gained s c x b0 b2 (ins ∷ []) here (attributes x.row (stream s x))
      hash-group b0 b1 b2 x f w m =
          let h : length (copied 2 ins) ≡ group_size ins = length-replicate (group_size ins) 2 in
          let r : c.row + 1 + group_size ins ≡ x.row = omega (arith, m.row, h, below) in
          let n = moved_on (leaf_taken attributes s c in_list (λ x. Unit) t l d b0 b1 1 p w) m in
          record {
            roles = 1 ∷ copied 2 ins;
            moved = record
                { in_list = n.in_list; row = n.row; forth = n.forth; here = refl; outer = n.outer; roles = n.roles };
            some = omega arith;
            same = past_hash _ (group_stream s d q k g) ∙ chosen _ _ _ (eq-eqb _ _ f) ∙
                gathered_one (c.row + 1 + group_size ins) ins (1 ∷ copied 2 ins)
                (attributes (c.row + 1 + group_size ins) aft) ∙
                (λ i. gathered (ins ∷ []) (1 ∷ copied 2 ins) (attributes (r i) (sym m.here i)));
          }
