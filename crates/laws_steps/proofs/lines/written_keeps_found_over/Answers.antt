use Rattle.laws_steps.proofs.inside.LineKeeping.{written_keeps_found_over}
use Rattle.laws_steps.proofs.lines.written_keeps_found_over.Goals as goal

pub returns : goal.returns
returns g c = written_keeps_found_over _ _
