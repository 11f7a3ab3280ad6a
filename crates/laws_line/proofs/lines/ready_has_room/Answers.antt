use Rattle.laws_line.proofs.inside.ReadyRoom.{ready_has_room}
use Rattle.laws_line.proofs.lines.ready_has_room.Goals as goal

pub returns : goal.returns
returns c = ready_has_room
