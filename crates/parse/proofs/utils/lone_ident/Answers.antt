use Rattle.parse.proofs.Meeting.{past_in_of}
use Rattle.parse.proofs.utils.lone_ident.Goals as goal

pub peek-requires-in-Leaf : goal.peek-requires-in-Leaf
peek-requires-in-Leaf c = past_in_of _ _ _ _ c.past-next.ensures c.requires.in_list c.in-Leaf.ensures.token

pub skip-requires : goal.skip-requires
skip-requires c = past_in_of _ _ _ _ c.past-next.ensures c.requires.in_list c.in-Leaf.ensures.token
