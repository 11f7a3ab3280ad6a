use Rattle.laws_steps.proofs.inside.LineKeeping.{none_keeps_found}
use Rattle.laws_steps.proofs.lines.none_keeps_found.Goals as goal

pub returns : goal.returns
returns c = none_keeps_found
