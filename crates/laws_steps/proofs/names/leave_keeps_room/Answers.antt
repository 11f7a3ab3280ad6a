use Rattle.laws_steps.proofs.inside.Absent.{leave_keeps_room}
use Rattle.laws_steps.proofs.names.leave_keeps_room.Goals as goal

pub returns : goal.returns
returns c = leave_keeps_room
