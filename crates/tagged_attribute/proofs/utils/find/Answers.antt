use Rattle.parse.proofs.Items as items
use Rattle.tagged_attribute.proofs.utils.find.Goals as goal

pub one_group-requires-clause-in_list : goal.one_group-requires-clause-in_list
one_group-requires-clause-in_list c = items.start_in c.start.ensures c.requires.1
