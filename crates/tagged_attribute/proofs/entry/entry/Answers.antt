use Rattle.tagged_attribute.proofs.Cursors as cursors
use Rattle.tagged_attribute.proofs.entry.entry.Goals as goal

pub keyed-requires-clause-onward : goal.keyed-requires-clause-onward
keyed-requires-clause-onward c = cursors.onward_leaf c.requires c.in-Leaf.ensures c.past.ensures
