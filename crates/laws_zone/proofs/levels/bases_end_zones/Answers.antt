use Rattle.laws_zone.proofs.inside.Bases.{bases_end_zones}
use Rattle.laws_zone.proofs.levels.bases_end_zones.Goals as goal

pub returns : goal.returns
returns c = bases_end_zones
