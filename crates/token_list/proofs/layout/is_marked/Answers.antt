use mathlib.Core.Path.{sym, ◌∙◌}
use borrow.Author.Tests.{le-ltb}
use Rattle.token_list.proofs.Columns.{marked-short}
use Rattle.token_list.proofs.layout.is_marked.Goals as goal

pub returns-else-s-gt-NAMES_DIFFER : goal.returns-else-s-gt-NAMES_DIFFER
returns-else-s-gt-NAMES_DIFFER c =
    le-ltb _ _ c.if-s-gt-NAMES_DIFFER.false ∙ sym (marked-short c.args.s.now c.if-s-gt-NAMES_DIFFER.false)
