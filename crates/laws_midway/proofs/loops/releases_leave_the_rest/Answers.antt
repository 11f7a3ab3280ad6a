use Rattle.laws_midway.proofs.inside.Looping.{releases_leave_the_rest}
use Rattle.laws_midway.proofs.loops.releases_leave_the_rest.Goals as goal

pub returns : goal.returns
returns c = releases_leave_the_rest
