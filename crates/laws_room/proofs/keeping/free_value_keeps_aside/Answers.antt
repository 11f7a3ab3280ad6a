use Rattle.laws_room.proofs.inside.Kept.{free_value_keeps_aside}
use Rattle.laws_room.proofs.keeping.free_value_keeps_aside.Goals as goal

pub returns : goal.returns
returns c = free_value_keeps_aside
