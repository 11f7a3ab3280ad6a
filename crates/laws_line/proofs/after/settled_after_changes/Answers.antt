use Rattle.laws_line.proofs.inside.SettledAgain.{settled_after_changes}
use Rattle.laws_line.proofs.after.settled_after_changes.Goals as goal

pub returns : goal.returns
returns c = settled_after_changes
