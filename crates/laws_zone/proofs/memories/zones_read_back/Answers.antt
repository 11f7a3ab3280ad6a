use Rattle.laws_zone.proofs.inside.Zoning.{zones_read_back}
use Rattle.laws_zone.proofs.memories.zones_read_back.Goals as goal

pub returns : goal.returns
returns c = zones_read_back
