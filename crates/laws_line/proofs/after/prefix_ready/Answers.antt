use Rattle.laws_line.proofs.inside.SettledAgain.{prefix_ready}
use Rattle.laws_line.proofs.after.prefix_ready.Goals as goal

pub returns : goal.returns
returns c = prefix_ready
