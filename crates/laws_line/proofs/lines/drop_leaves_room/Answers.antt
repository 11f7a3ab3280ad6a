use Rattle.laws_line.proofs.inside.Dropped.{drop_leaves_room}
use Rattle.laws_line.proofs.lines.drop_leaves_room.Goals as goal

pub returns : goal.returns
returns c = drop_leaves_room
