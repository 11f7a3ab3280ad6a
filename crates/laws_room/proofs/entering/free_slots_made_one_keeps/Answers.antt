use Rattle.laws_room.proofs.inside.RootEntries.{free_slots_made_one_keeps}
use Rattle.laws_room.proofs.entering.free_slots_made_one_keeps.Goals as goal

pub returns : goal.returns
returns c = free_slots_made_one_keeps
