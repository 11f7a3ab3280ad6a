use Rattle.laws_midway.proofs.inside.FoundRoom.{found_room_stays}
use Rattle.laws_midway.proofs.rooms.found_room_stays.Goals as goal

pub returns : goal.returns
returns c = found_room_stays
