use Rattle.laws_names.proofs.inside.MoreRoom.{widened_has_room}
use Rattle.laws_names.proofs.lacking.widened_has_room.Goals as goal

pub returns : goal.returns
returns c = widened_has_room
