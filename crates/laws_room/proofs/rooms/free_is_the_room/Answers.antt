use Rattle.laws_room.proofs.FreeRoom.{free_is_the_room}
use Rattle.laws_room.proofs.rooms.free_is_the_room.Goals as goal

pub returns : goal.returns
returns c = free_is_the_room
