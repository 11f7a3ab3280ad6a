use Rattle.laws_midway.proofs.inside.Cutting.{cut_is_of_these_sectors}
use Rattle.laws_midway.proofs.cutting.cut_is_of_these_sectors.Goals as goal

pub returns : goal.returns
returns c = cut_is_of_these_sectors
