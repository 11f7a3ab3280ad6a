use Rattle.laws_record.proofs.RoomPlaced.{found_is_placed}
use Rattle.laws_record.proofs.slots.found_is_placed.Goals as goal

pub returns : goal.returns
returns c = found_is_placed
