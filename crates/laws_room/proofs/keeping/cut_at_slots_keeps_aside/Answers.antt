use Rattle.laws_room.proofs.inside.Kept.{cut_at_slots_keeps_aside}
use Rattle.laws_room.proofs.keeping.cut_at_slots_keeps_aside.Goals as goal

pub returns : goal.returns
returns c = cut_at_slots_keeps_aside
