-- Rows added one after the other.
use mathlib.Core.Path.{◌≡◌, refl, ap, ◌∙◌, sym, subst}
use mathlib.Core.Bool.{Bool}
use mathlib.Core.List.{List, [], ◌∷◌, ◌++◌, append_assoc}
use Prim.Native.Nat.{ℕ, ◌-◌, ◌<◌}
use native.Mathlib.Omega.{arith}
use lib.ListN.{length, take, drop, length-append}
use lib.Seq.{slice}
use Rattle.token_list.specs.Byte.{SPACE, LF}
use Rattle.token_list.specs.Layout.{names}
use Rattle.token_list.specs.Row.{Row, mark_column_lem, written}
use Rattle.token_list.specs.Rows.{list_of}
use Rattle.token_list.proofs.Rows.{written_append}
use Rattle.output.specs.Contract.{FAR, Put}
use Rattle.output.proofs.Texts.{joined, nothing, retold}
use Rattle.writing.proofs.Copied.{part_of}
use Rattle.generate.specs.Contract.{row, Appended, Built}
use Rattle.generate.specs.declared.stream_builder.ListBuilder.{ListBuilder}

-- ## Parts of a list

-- rows made of a part of a list
pub of_part : {a b : ListBuilder} (rows : List ℕ → List Row) (f t : ℕ) (s : List ℕ)
    → Appended a b (rows (take (t - f) (drop f s))) → Appended a b (rows (slice f t s))
of_part {a} {b} rows f t s h = subst (λ (x : List ℕ). Appended a b (rows x)) (part_of f t s) h

-- ## Rows one after the other

pub then : {a b c : ListBuilder} {rs qs : List Row} → Appended a b rs → Appended b c qs → Appended a c (rs ++ qs)
then {a} {b} {c} {rs} {qs} p q =
    let second : Put b.out.now c.out.now b.built.bytes c.built.bytes (written a.built.marked qs) =
    retold (ap (λ (w : Bool). written w qs) p.marked) q.put in
    record {
      same_output = q.same_output ∙ p.same_output;
      marked = q.marked ∙ p.marked;
      rows = omega (arith, p.rows, q.rows, length-append rs qs);
      put = retold (sym (written_append a.built.marked rs qs)) (joined p.put second);
    }

-- a list that was begun, with rows added to it
pub further_built : {w : Bool} {k : List ℕ} {b c : ListBuilder} {rs qs : List Row} → Built w k b rs →
    Appended b c qs → Built w k c (rs ++ qs)
further_built {w} {k} {b} {c} {rs} {qs} p q =
    let text : list_of w rs ++ written w qs ≡ list_of w (rs ++ qs) =
    append_assoc (names w) (written w rs) (written w qs)
    ∙ ap (λ (t : List ℕ). names w ++ t) (sym (written_append w rs qs)) in
    let second : Put b.out.now c.out.now b.built.bytes c.built.bytes (written w qs) =
    retold (ap (λ (x : Bool). written x qs) p.marked) q.put in
    record {
      marked = q.marked ∙ p.marked;
      rows = omega (arith, p.rows, q.rows, length-append rs qs);
      put = retold text (joined p.put second);
    }

-- no rows
pub unchanged : {b : ListBuilder} → length b.out.now < FAR → Appended b b []
unchanged {b} h = record { same_output = refl; marked = refl; rows = omega arith; put = nothing b.out.now b.built.bytes h }
