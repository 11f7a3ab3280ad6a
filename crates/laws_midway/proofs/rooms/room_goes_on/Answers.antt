use Rattle.laws_midway.proofs.inside.FoundRoom.{room_goes_on}
use Rattle.laws_midway.proofs.rooms.room_goes_on.Goals as goal

pub returns : goal.returns
returns c = room_goes_on
