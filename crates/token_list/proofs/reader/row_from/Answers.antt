use borrow.Author.Rules.{rules}
use Rattle.token_list.proofs.Readers.{shows_none, shows_to}
use Rattle.token_list.proofs.reader.row_from.Goals as goal

pub returns-then-list-at : goal.returns-then-list-at
returns-then-list-at c = shows_none c.args.list.now c.args.at c.if-list-at.true

pub returns : goal.returns
returns c = rw c.min.ensures (shows_to c.args.list.now c.args.at c.line_end.result (search rules) c.line_end.ensures)
