use Rattle.laws_room.proofs.inside.Kept.{leader_hints_keeps_aside}
use Rattle.laws_room.proofs.keeping.leader_hints_keeps_aside.Goals as goal

pub returns : goal.returns
returns c = leader_hints_keeps_aside
