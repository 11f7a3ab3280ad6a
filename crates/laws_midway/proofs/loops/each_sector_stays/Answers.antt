use Rattle.laws_midway.proofs.inside.Looping.{each_sector_stays}
use Rattle.laws_midway.proofs.loops.each_sector_stays.Goals as goal

pub returns : goal.returns
returns c = each_sector_stays
