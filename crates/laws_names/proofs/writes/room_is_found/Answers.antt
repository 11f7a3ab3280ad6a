use Rattle.laws_names.proofs.inside.Rooms.{room_is_found}
use Rattle.laws_names.proofs.writes.room_is_found.Goals as goal

pub returns : goal.returns
returns c = room_is_found
