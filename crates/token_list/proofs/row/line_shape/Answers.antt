use mathlib.Core.Path.{sym, ◌∙◌, subst}
use Rattle.token_list.proofs.Columns.{LastColumn, plain_column, marked-column, no_mark, row-column}
use Rattle.token_list.proofs.row.line_shape.Goals as goal
use Rattle.token_list.proofs.row.line_shape.Goals.{then-not-marked, else-not-marked+then-mark_stands}

pub returns-else-mark_stands : goal.returns-else-mark_stands
returns-else-mark_stands c =
    let no = sym c.mark_stands.ensures ∙ c.if-mark_stands.false in
    record { right = sym (no_mark c.args.marked c.args.s.now c.args.at c.if-not-marked.false no); past = tt; rest = tt }

pub returns : goal.returns
returns c =
    let a = c.args in
    let column : LastColumn a.marked a.s.now a.at c.if-not-marked.column = elim c.if-not-marked.branch [
      | then-not-marked w ↦
          subst (LastColumn a.marked a.s.now a.at) (sym w.column-is)
          (plain_column a.marked a.s.now a.at w.if-not-marked.true c.requires)
      | else-not-marked+then-mark_stands w ↦
          subst (LastColumn a.marked a.s.now a.at) (sym w.column-is)
          (marked-column a.marked a.s.now a.at w.if-not-marked.false (sym w.mark_stands.ensures
          ∙ w.if-mark_stands.true))
    ] in
    row-column a.marked a.s.now a.at _ _ column c.column_line.ensures
