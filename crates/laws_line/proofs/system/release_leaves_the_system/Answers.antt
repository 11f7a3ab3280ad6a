use Rattle.laws_line.proofs.inside.crashes.Spared.{release_leaves_the_system}
use Rattle.laws_line.proofs.system.release_leaves_the_system.Goals as goal

pub returns : goal.returns
returns c = release_leaves_the_system
