use Rattle.laws_midway.proofs.inside.Apart.{claims_leave_carried_pages}
use Rattle.laws_midway.proofs.loops.claims_leave_carried_pages.Goals as goal

pub returns : goal.returns
returns c = claims_leave_carried_pages
