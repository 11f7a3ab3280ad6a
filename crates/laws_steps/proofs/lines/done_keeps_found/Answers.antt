use Rattle.laws_steps.proofs.inside.LineKeeping.{done_keeps_found}
use Rattle.laws_steps.proofs.lines.done_keeps_found.Goals as goal

pub returns : goal.returns
returns g c = done_keeps_found _
