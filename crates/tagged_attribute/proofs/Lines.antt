-- Laws on the lines of entries.
use mathlib.Core.Path.{◌≡◌, refl, ap, ◌∙◌, sym}
use mathlib.Core.List.{List, [], ◌∷◌, ◌++◌, append_assoc}
use Prim.Native.Nat.{ℕ, ◌+◌, ◌-◌}
use native.Mathlib.Omega.{arith}
use lib.ListN.{take, drop}
use lib.Seq.{length-take-le, take-add, drop_at}
use Rattle.token_list.specs.Byte.{bytes}
use Rattle.token_list.specs.Contract.{InList}
use Rattle.token_list.specs.declared.check.Cursor.{Cursor}
use Rattle.token_list.specs.declared.stream.Token.{Token}
use Rattle.output.specs.Writes.{Writes}
use Rattle.output.specs.declared.writer.Writer.{Writer}
use Rattle.output.proofs.Writers.{then, unwritten, writes_as}
use Rattle.tagged_reading.specs.Entry.{Entry, tag, property}
use Rattle.tagged_reading.specs.Reading.{adding}
use Rattle.tagged_attribute.specs.Contract.{token_text, entries_at}
use Rattle.tagged_attribute.specs.Listing.{entry_line, entry_lines}
use Rattle.tagged_attribute.specs.Reported.{Readable, LineAt}
use Rattle.tagged_attribute.proofs.Turns.{adding-none, adding_both}

-- ## One line

pub tag-line : {a b c d : Writer} {t : List ℕ} → Writes a b (bytes "tag ") → Writes b c t
    → Writes c d (bytes " -\n") → Writes a d (entry_line (tag t))
unfolding entry_line
tag-line p q r = then p (then q r)

pub property_line : {a b c d e f : Writer} {key value : List ℕ} → Writes a b (bytes "property ")
    → Writes b c key → Writes c d (bytes " ") → Writes d e value → Writes e f (bytes "\n")
    → Writes a f (entry_line (property key value))
unfolding entry_line
property_line p q r s t = then p (then q (then r (then s t)))

-- a text as the part of the list that is lent to be written
pub put_text : {s : List ℕ} {t : Token} {x y : Writer} → Readable s t
    → Writes x y (take (t.end - t.start) (drop t.start s)) → Writes x y (token_text s t)
put_text {s} {t} h p =
    let a = t.start in
    let e = t.end in
    let n : e ≡ a + (e - a) = omega (arith, h.forth) in
    let part = ap (λ (k : ℕ). drop a (take k s)) n ∙ ap (drop a) (take-add a (e - a) s) ∙
    drop_at (take a s) (take (e - a) (drop a s)) a (length-take-le a s (omega (arith, h.forth, h.within))) in
    writes_as part p

-- ## All lines

lines_both : (es fs : List Entry) → entry_lines (es ++ fs) ≡ entry_lines es ++ entry_lines fs
lines_both [] fs = refl
lines_both (e ∷ es) fs =
    ap (λ (t : List ℕ). entry_line e ++ t) (lines_both es fs) ∙
    sym (append_assoc (entry_line e) (entry_lines es) (entry_lines fs))

-- what was written from the cursor `from` on, and where the loop is
pub record Written (s : List ℕ) (from c : Cursor) (x y : Writer) : Type 0 where
  pub es : List Entry
  pub rs : List ℕ
  pub in_list : InList s c
  pub same : entries_at s from ≡ adding es rs (entries_at s c)
  pub writes : Writes x y (entry_lines es)

pub written_start : {s : List ℕ} {c : Cursor} {x : Writer} → InList s c → Written s c c x x
written_start {s} {c} i =
    record {
      es = [];
      rs = [];
      in_list = i;
      same = adding-none (entries_at s c);
      writes = unwritten;
    }

module _ {s : List ℕ} {from c : Cursor} {x y : Writer} (k : Written s from c x y) where
  pub written-more : {d : Cursor} {z : Writer} → LineAt s c d y z → Written s from d x z
  written-more {d} l =
      let o = l.added.onward in
      record {
        es = k.es ++ l.es;
        rs = k.rs ++ l.rs;
        in_list = o.in_list;
        same = k.same ∙ ap (adding k.es k.rs) l.added.same ∙
            adding_both k.es l.es k.rs l.rs (entries_at s d);
        writes = writes_as (lines_both k.es l.es) (then k.writes l.writes);
      }
