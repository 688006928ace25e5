use Rattle.tagged_attribute.proofs.Entries as entries
use Rattle.parse.proofs.Meeting as meeting
use mathlib.Core.Path.{sym, ◌∙◌}
use Rattle.tagged_attribute.proofs.entry.separated.Goals as goal

pub returns-in-Leaf : goal.returns-in-Leaf
returns-in-Leaf c = let l = c.in-Leaf.ensures in
    let comma = meeting.punct_of _ _ _ _ l.token ∙ sym c.is_punct.ensures ∙ c.if-is_punct.true in
    entries.property-comma c.requires.token_in c.requires.token_in_2 c.requires.onward l c.past-next.ensures comma
