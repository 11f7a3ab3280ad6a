use Rattle.laws_steps.proofs.inside.LineKeeping.{later_keeps_found}
use Rattle.laws_steps.proofs.lines.later_keeps_found.Goals as goal

pub returns : goal.returns
returns c = later_keeps_found
