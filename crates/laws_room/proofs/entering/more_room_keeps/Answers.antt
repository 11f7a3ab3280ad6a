use Rattle.laws_room.proofs.inside.RootEntries.{more_room_keeps}
use Rattle.laws_room.proofs.entering.more_room_keeps.Goals as goal

pub returns : goal.returns
returns c = more_room_keeps
