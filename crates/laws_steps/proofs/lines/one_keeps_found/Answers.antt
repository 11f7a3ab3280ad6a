use Rattle.laws_steps.proofs.inside.LineKeeping.{one_keeps_found}
use Rattle.laws_steps.proofs.lines.one_keeps_found.Goals as goal

pub returns : goal.returns
returns c = one_keeps_found
