use Rattle.tagged_attribute.proofs.Entries as entries
use Rattle.parse.proofs.Meeting as meeting
use mathlib.Core.Path.{sym, ◌∙◌}
use Rattle.tagged_attribute.proofs.entry.keyed.Goals as goal

pub valued-requires-clause-onward : goal.valued-requires-clause-onward
valued-requires-clause-onward c =
    entries.past-key c.requires.token_in c.requires.onward c.in-Leaf.ensures c.past-in-Leaf-2.ensures

pub returns-in-Leaf : goal.returns-in-Leaf
returns-in-Leaf c = let l = c.in-Leaf.ensures in
    let comma = meeting.punct_of _ _ _ _ l.token ∙ sym c.is_punct.ensures ∙ c.if-is_punct.true in
    entries.tag-comma c.requires.token_in c.requires.onward l c.past.ensures comma
