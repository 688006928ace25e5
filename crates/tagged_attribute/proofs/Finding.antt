-- Laws on where the entries begin.
use mathlib.Core.Path.{◌≡◌, ap, ◌∙◌, sym}
use mathlib.Core.Bool.{true}
use mathlib.Core.List.{List, []}
use Prim.Native.Nat.{ℕ, ◌+◌}
use native.Mathlib.Omega.{arith}
use Rattle.token_list.specs.Stream.{group, size, head, at}
use Rattle.token_list.specs.Contract.{start_of, InList, LeafAt, GroupAt, Looked, row_of, skipped}
use Rattle.token_list.specs.declared.check.Cursor.{Cursor}
use Rattle.token_list.specs.declared.stream.Token.{Token}
use Rattle.token_list.specs.declared.stream.Glance.{Glance}
use Rattle.token_list.proofs.Texts.{chosen}
use Rattle.reading.specs.Token.{is_word, is_end, group_size}
use Rattle.parse.specs.Contract.{stream, past_of}
use Rattle.parse.proofs.Meeting.{group_stream, past_in_of}
use Rattle.tagged_reading.specs.Role.{others}
use Rattle.tagged_reading.specs.Reading.{adding, before, entries, FIRST_ENTRY, list_after}
use Rattle.tagged_reading.specs.Reading.{attribute, tagged}
use Rattle.tagged_attribute.specs.Contract.{Onward, listed, GroupAlone, EntriesFrom}
use Rattle.tagged_attribute.proofs.Cursors.{onward_leaf, onward_group, stream_past}

-- ## The one group

module _ {s : List ℕ} {c : Cursor} (start : c ≡ start_of s) (i : InList s c) {t : Token} (g : GroupAt s c.at t)
    {d : Cursor} (p : d ≡ past_of c t) (e : Cursor) (k : skipped (at s d.at).outer s d e) where
  past : Onward s c e (group_size (at s t.next).here) × (stream s e ≡ head (at s t.next).outer)
  past = onward_group i g p k

  all-rows : listed s ≡ group t.byte (stream s d) (stream s e)
  all-rows =
      ap (λ (x : Cursor). stream s x) (sym start) ∙ group_stream s c t i g
      ∙ (λ j. group t.byte (sym (stream_past s c d t p) j) (sym past.1 j))

  pub alone : {l : Glance} → Looked s e.at l → l.kind ≡ 0 → GroupAlone s d
  alone look h =
      record {
        in_list = past_in_of s c d t p i g.token;
        row = ap (λ (x : Cursor). x.row) p ∙ omega (arith, ap (λ (x : Cursor). x.row) start);
        same = λ prefix. ap (tagged prefix) all-rows ∙ chosen _ _ _ (ap is_end (look.none h));
      }

-- ## The prefix and its group

pub prefix-group : {s : List ℕ} (prefix : List ℕ) {c : Cursor} {t : Token} → LeafAt s c.at t
    → is_word prefix (row_of s t) ≡ true → {d : Cursor} → d ≡ past_of c t → InList s c → c.row ≡ 1
    → {q : Token} → GroupAt s d.at q → {e : Cursor} → e ≡ past_of d q
    → EntriesFrom s (attribute prefix (stream s c)) e
prefix-group {s} prefix {c} {t} l f {d} p i one {q} g {e} r =
    let o = onward_leaf i l p in
    let row : e.row ≡ 3 = ap (λ (x : Cursor). x.row) r ∙ omega (arith, o.row, one) in
    let behind = 1 + size (head (at s q.next).outer) + 1 in
    let here = stream_past s d e q r in
    record {
      in_list = past_in_of s d e q r o.in_list g.token;
      row = row;
      behind = behind;
      same = ap (attribute prefix) l.here ∙ chosen _ _ _ f ∙ ap list_after (sym (stream_past s c d t p))
          ∙ ap list_after (group_stream s d q o.in_list g)
          ∙ (λ j. adding [] (others FIRST_ENTRY) (before behind (entries (sym row j) (sym here j))));
    }
