use Rattle.laws_midway.proofs.inside.Looping.{relabel_leaves_other_sectors}
use Rattle.laws_midway.proofs.loops.relabel_leaves_other_sectors.Goals as goal

pub returns : goal.returns
returns c = relabel_leaves_other_sectors
