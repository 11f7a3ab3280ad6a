use Rattle.laws_line.proofs.inside.crashes.Spared.{cut_leaves_the_system}
use Rattle.laws_line.proofs.system.cut_leaves_the_system.Goals as goal

pub returns : goal.returns
returns c = cut_leaves_the_system
