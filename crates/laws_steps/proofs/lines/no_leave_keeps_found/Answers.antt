use Rattle.laws_steps.proofs.inside.Leaving.{no_leave_keeps_found}
use Rattle.laws_steps.proofs.lines.no_leave_keeps_found.Goals as goal

pub returns : goal.returns
returns c = no_leave_keeps_found
