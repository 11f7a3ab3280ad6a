use Rattle.laws_room.proofs.inside.Kept.{equal_value_keeps_aside}
use Rattle.laws_room.proofs.keeping.equal_value_keeps_aside.Goals as goal

pub returns : goal.returns
returns c = equal_value_keeps_aside
