use mathlib.Core.Path.{subst⁻¹}
use Prim.Native.Nat.{ℕ, ◌+◌}
use Rattle.token_list.specs.Reader.{GoesOn}
use Rattle.token_list.specs.declared.check.Cursor.{Cursor}
use Rattle.token_list.proofs.Readers.{stays, on_last, on_line}
use Rattle.token_list.proofs.reader.row_after.Goals as goal
use Rattle.token_list.proofs.reader.row_after.Goals.{then-end-list, else-end-list}

pub returns-then-list-at : goal.returns-then-list-at
returns-then-list-at c = stays c.args.list.now (record { at = c.args.at; row = c.args.row }) c.if-list-at.true

pub returns : goal.returns
returns c =
    let from : Cursor = record { at = c.args.at; row = c.args.row } in
    let goes : ℕ → Type 0 = λ n. GoesOn c.args.list.now from (record { at = n; row = c.args.row + 1 }) in
    elim c.if-end-list.branch [
      | then-end-list w ↦
          subst⁻¹ goes w.next-is
          (on_line c.args.list.now from c.line_end-end.result w.if-end-list.true c.line_end-end.ensures)
      | else-end-list w ↦
          subst⁻¹ goes w.next-is
          (on_last c.args.list.now from c.line_end-end.result c.if-list-at.false w.if-end-list.false
          c.line_end-end.ensures)
    ]
