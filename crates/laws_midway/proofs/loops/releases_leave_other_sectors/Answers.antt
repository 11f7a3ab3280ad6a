use Rattle.laws_midway.proofs.inside.Looping.{releases_leave_other_sectors}
use Rattle.laws_midway.proofs.loops.releases_leave_other_sectors.Goals as goal

pub returns : goal.returns
returns c = releases_leave_other_sectors
