use Rattle.laws_room.proofs.inside.Kept.{past_count_keeps_aside}
use Rattle.laws_room.proofs.keeping.past_count_keeps_aside.Goals as goal

pub returns : goal.returns
returns c = past_count_keeps_aside
