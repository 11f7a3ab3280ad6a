use Rattle.laws_steps.proofs.inside.LineKeeping.{call_keeps_found}
use Rattle.laws_steps.proofs.lines.call_keeps_found.Goals as goal

pub returns : goal.returns
returns g c = call_keeps_found _ _ _ _
