use Rattle.laws_line.proofs.inside.crashes.Spared.{drop_leaves_the_system}
use Rattle.laws_line.proofs.system.drop_leaves_the_system.Goals as goal

pub returns : goal.returns
returns c = drop_leaves_the_system
