use mathlib.Core.Path.{refl}
use Rattle.from_source.proofs.Found.{no_room}
use Rattle.from_source.proofs.roles.read_within.Goals as goal

pub returns-then-not-has_room : goal.returns-then-not-has_room
returns-then-not-has_room g c = (refl, no_room c.scan-scanned.ensures c.has_room.ensures.whole c.if-not-has_room.true)
