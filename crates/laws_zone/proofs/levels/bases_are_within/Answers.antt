use Rattle.laws_zone.proofs.inside.Bases.{bases_are_within}
use Rattle.laws_zone.proofs.levels.bases_are_within.Goals as goal

pub returns : goal.returns
returns c = bases_are_within
