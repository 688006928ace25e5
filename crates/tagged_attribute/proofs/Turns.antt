-- Laws on the loop over entries: what was read from the cursor `from` on, and what is left at c.
use mathlib.Core.Path.{◌≡◌, refl, ap, ◌∙◌, sym}
use mathlib.Core.List.{List, [], ◌++◌, append_assoc}
use Prim.Native.Nat.{ℕ, ◌+◌, ◌≤◌}
use native.Mathlib.Omega.{arith}
use lib.ListN.{length, length-append}
use lib.Seq.{sets}
use Rattle.token_list.specs.Contract.{InList}
use Rattle.token_list.specs.declared.check.Cursor.{Cursor}
use Rattle.parse.proofs.Buffer.{sets_append}
use Rattle.tagged_reading.specs.Entry.{Entry}
use Rattle.tagged_reading.specs.Reading.{Answer, none, read, refused, adding}
use Rattle.tagged_attribute.specs.Contract.{Onward}
use Rattle.tagged_attribute.specs.Contract.{entries_at, Taken}
use Rattle.tagged_attribute.proofs.Cursors.{onward_then}

pub adding-none : (a : Answer) → a ≡ adding [] [] a
adding-none none = refl
adding-none (read es rs) = refl
adding-none (refused n p) = refl

pub adding_both : (es fs : List Entry) (rs qs : List ℕ) (a : Answer) →
    adding es rs (adding fs qs a) ≡ adding (es ++ fs) (rs ++ qs) a
adding_both es fs rs qs none = refl
adding_both es fs rs qs (read gs ps) = simp append_assoc
adding_both es fs rs qs (refused n p) = refl

pub record Gone (s : List ℕ) (from : Cursor) (b0 : List ℕ) (c : Cursor) (b1 : List ℕ) (count : ℕ) : Type 0 where
  pub es : List Entry
  pub rs : List ℕ
  pub counted : count ≡ length es
  pub few : count ≤ c.at
  pub onward : Onward s from c (length rs)
  pub roles : b1 ≡ sets b0 from.row rs
  pub same : entries_at s from ≡ adding es rs (entries_at s c)

pub gone_start : {s : List ℕ} {c : Cursor} {b : List ℕ} → InList s c → Gone s c b c b 0
gone_start {s} {c} i =
    record {
      es = [];
      rs = [];
      counted = refl;
      few = omega arith;
      onward = record { in_list = i; row = omega arith; forth = omega arith; outer = refl };
      roles = refl;
      same = adding-none (entries_at s c);
    }

module _ {s : List ℕ} {from c : Cursor} {b0 b1 : List ℕ} {count : ℕ} (k : Gone s from b0 c b1 count) where
  pub gone_more : {d : Cursor} {b2 : List ℕ} {n : ℕ} → Taken s c d n b1 b2 → Gone s from b0 d b2 (count + n)
  gone_more {d} t =
      let l = length-append k.rs t.rs in
      let o = onward_then k.onward t.added.onward in
      record {
        es = k.es ++ t.es;
        rs = k.rs ++ t.rs;
        counted = omega (arith, k.counted, t.count, length-append k.es t.es);
        few = omega (arith, k.few, t.one, t.added.some, t.added.onward.forth);
        onward = record {
          in_list = o.in_list;
          row = omega (arith, o.row, l);
          forth = omega (arith, o.forth, l);
          outer = o.outer;
        };
        roles = t.roles ∙ (λ i. sets (k.roles i) (k.onward.row i) t.rs) ∙
            sym (sets_append b0 from.row k.rs t.rs);
        same = k.same ∙ ap (adding k.es k.rs) t.added.same ∙
            adding_both k.es t.es k.rs t.rs (entries_at s d);
      }
