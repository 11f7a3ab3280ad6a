use Rattle.laws_steps.proofs.inside.LineKeeping.{make_keeps_found}
use Rattle.laws_steps.proofs.lines.make_keeps_found.Goals as goal

pub returns : goal.returns
returns c = make_keeps_found
