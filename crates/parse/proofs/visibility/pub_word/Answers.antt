use Rattle.parse.proofs.Meeting as meeting
use Rattle.parse.specs.Contract as contract
use Rattle.reading.specs.Reading as reading
use Rattle.parse.proofs.Places as places
use Rattle.reading.specs.Token.{starts}
use Rattle.reading.specs.Role as role
use Rattle.token_list.proofs.Texts.{chosen}
use mathlib.Core.Path.{sym, ◌∙◌, ap}
use Rattle.parse.proofs.visibility.pub_word.Goals as goal

pub lone_ident-requires-clause-in_list : goal.lone_ident-requires-clause-in_list
lone_ident-requires-clause-in_list c =
    meeting.past_in_of _ _ _ _ c.past-inside.ensures c.requires c.in-Group.ensures.token

pub returns-else-not-ident_eq : goal.returns-else-not-ident_eq
returns-else-not-ident_eq c = let l = c.in-Leaf.ensures in
    let is = sym c.if-not-ident_eq.ensures in (
      ap (starts (reading.is_word reading.PUB)) l.here ∙ is,
      places.token_past _ _ _ _ c.requires l c.take_token.ensures.value,
      meeting.leaf_belonged reading.visibility _ _ c.requires contract.any _ l _ _ _ role.visibility
          c.take_token.ensures.value c.take_token.ensures.roles_after reading.scope_after (chosen _ _ _ is),
    )
