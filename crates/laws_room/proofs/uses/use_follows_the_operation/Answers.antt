use Rattle.laws_room.proofs.inside.SectorsUsed.{use_follows_the_operation}
use Rattle.laws_room.proofs.uses.use_follows_the_operation.Goals as goal

pub returns : goal.returns
returns c = use_follows_the_operation
