use Rattle.tagged_attribute.proofs.Finding as finding
use Rattle.tagged_attribute.proofs.utils.one_group.Goals as goal

pub returns-then-look-eq0 : goal.returns-then-look-eq0
returns-then-look-eq0 c =
    finding.alone c.requires.first_value c.requires.in_list c.in-Group.ensures c.past-inside.ensures _
    c.skip-after.ensures c.look.ensures c.if-look-eq0.true
