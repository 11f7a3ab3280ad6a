use Rattle.laws_line.proofs.inside.Throughout.{changes_leave_room}
use Rattle.laws_line.proofs.lines.changes_leave_room.Goals as goal

pub returns : goal.returns
returns c = changes_leave_room
