use Rattle.laws_midway.proofs.inside.Looping.{claims_leave_other_sectors}
use Rattle.laws_midway.proofs.loops.claims_leave_other_sectors.Goals as goal

pub returns : goal.returns
returns c = claims_leave_other_sectors
