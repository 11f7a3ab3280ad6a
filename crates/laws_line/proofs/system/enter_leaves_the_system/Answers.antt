use Rattle.laws_line.proofs.inside.crashes.Spared.{enter_leaves_the_system}
use Rattle.laws_line.proofs.system.enter_leaves_the_system.Goals as goal

pub returns : goal.returns
returns c = enter_leaves_the_system
