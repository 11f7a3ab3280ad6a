use Rattle.laws_zone.proofs.inside.Bases.{bases_fall}
use Rattle.laws_zone.proofs.levels.bases_fall.Goals as goal

pub returns : goal.returns
returns c = bases_fall
