use Rattle.laws_zone.proofs.inside.Remembering.{memories_have_such_zones}
use Rattle.laws_zone.proofs.memories.memories_have_such_zones.Goals as goal

pub returns : goal.returns
returns c = memories_have_such_zones
