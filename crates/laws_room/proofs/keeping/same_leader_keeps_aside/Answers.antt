use Rattle.laws_room.proofs.inside.Kept.{same_leader_keeps_aside}
use Rattle.laws_room.proofs.keeping.same_leader_keeps_aside.Goals as goal

pub returns : goal.returns
returns c = same_leader_keeps_aside
