use Rattle.laws_line.proofs.inside.Renaming.{rename_leaves_room}
use Rattle.laws_line.proofs.lines.rename_leaves_room.Goals as goal

pub returns : goal.returns
returns c = rename_leaves_room
