use mathlib.Core.Path.{sym, ◌∙◌}
use mathlib.Core.Bool.{true, false}
use Rattle.token_list.proofs.Columns.{first-row_by}
use Rattle.token_list.proofs.layout.first_row.Goals as goal

pub returns-then-is_marked : goal.returns-then-is_marked
returns-then-is_marked c = first-row_by c.args.s.now true (sym c.is_marked.ensures ∙ c.if-is_marked.true)

pub returns-else-is_marked : goal.returns-else-is_marked
returns-else-is_marked c = first-row_by c.args.s.now false (sym c.is_marked.ensures ∙ c.if-is_marked.false)
