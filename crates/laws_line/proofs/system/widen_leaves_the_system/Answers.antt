use Rattle.laws_line.proofs.inside.crashes.Spared.{widen_leaves_the_system}
use Rattle.laws_line.proofs.system.widen_leaves_the_system.Goals as goal

pub returns : goal.returns
returns c = widen_leaves_the_system
