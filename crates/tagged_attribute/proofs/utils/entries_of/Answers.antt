use Rattle.tagged_attribute.proofs.Finding as finding
use mathlib.Core.Path.{sym, ◌∙◌}
use Rattle.tagged_attribute.proofs.utils.entries_of.Goals as goal

pub returns-in-Group : goal.returns-in-Group
returns-in-Group c =
    finding.prefix-group _ c.in-Leaf.ensures (sym c.ident_eq.ensures ∙ c.if-ident_eq.true) c.past-d.ensures
    c.requires.in_list c.requires.row_value c.in-Group.ensures c.past.ensures
