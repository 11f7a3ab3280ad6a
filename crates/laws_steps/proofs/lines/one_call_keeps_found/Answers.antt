use Rattle.laws_steps.proofs.inside.LineKeeping.{one_call_keeps_found}
use Rattle.laws_steps.proofs.lines.one_call_keeps_found.Goals as goal

pub returns : goal.returns
returns g c = one_call_keeps_found _ _
