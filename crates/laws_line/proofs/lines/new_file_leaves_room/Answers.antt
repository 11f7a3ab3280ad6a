use Rattle.laws_line.proofs.inside.NewFile.{new_file_leaves_room}
use Rattle.laws_line.proofs.lines.new_file_leaves_room.Goals as goal

pub returns : goal.returns
returns c = new_file_leaves_room
