use Rattle.laws_line.proofs.inside.crashes.Spared.{grow_leaves_the_system}
use Rattle.laws_line.proofs.system.grow_leaves_the_system.Goals as goal

pub returns : goal.returns
returns c = grow_leaves_the_system
