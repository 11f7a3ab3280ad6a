use Rattle.laws_room.proofs.inside.Kept.{descriptor_leader_keeps_with_root}
use Rattle.laws_room.proofs.keeping.descriptor_leader_keeps_with_root.Goals as goal

pub returns : goal.returns
returns c = descriptor_leader_keeps_with_root
