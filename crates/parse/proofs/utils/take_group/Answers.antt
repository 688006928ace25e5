use Rattle.parse.proofs.Meeting.{past_in_of}
use Rattle.parse.proofs.utils.take_group.Goals as goal

pub skip-end-requires : goal.skip-end-requires
skip-end-requires c = past_in_of _ _ _ _ c.past.ensures c.requires.in_list c.requires.group_at.token
