use Rattle.laws_room.proofs.Found.{free_sectors_are_those_found}
use Rattle.laws_room.proofs.rooms.free_sectors_are_those_found.Goals as goal

pub returns : goal.returns
returns c = free_sectors_are_those_found
