use Rattle.laws_room.proofs.inside.Kept.{system_leader_value_keeps_with_root}
use Rattle.laws_room.proofs.keeping.system_leader_value_keeps_with_root.Goals as goal

pub returns : goal.returns
returns c = system_leader_value_keeps_with_root
