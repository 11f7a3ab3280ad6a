use Rattle.laws_line.proofs.inside.SettledDrop.{settled_after_drop}
use Rattle.laws_line.proofs.after.settled_after_drop.Goals as goal

pub returns : goal.returns
returns c = settled_after_drop
