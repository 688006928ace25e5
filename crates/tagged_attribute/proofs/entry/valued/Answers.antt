use Rattle.tagged_attribute.proofs.Entries as entries
use borrow.Author.Tests.{ne_eqb}
use Rattle.tagged_attribute.proofs.entry.valued.Goals as goal

pub separated-requires-clause-onward : goal.separated-requires-clause-onward
separated-requires-clause-onward c =
    entries.past_value c.args.k c.requires.onward c.in-Leaf.ensures c.past-in-Leaf.ensures

pub returns-in-Leaf-2 : goal.returns-in-Leaf-2
returns-in-Leaf-2 c =
    entries.lost-token c.args.k c.requires.onward c.in-Leaf.ensures c.past-in-Leaf-2.ensures
    (ne_eqb _ _ c.if-l-eq108.false)
