use Rattle.laws_steps.proofs.inside.LineKeeping.{models_found_stays_entered}
use Rattle.laws_steps.proofs.lines.models_found_stays_entered.Goals as goal

pub returns : goal.returns
returns c = models_found_stays_entered
