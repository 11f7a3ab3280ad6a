use Rattle.laws_line.proofs.inside.crashes.Spared.{make_leaves_the_system}
use Rattle.laws_line.proofs.system.make_leaves_the_system.Goals as goal

pub returns : goal.returns
returns c = make_leaves_the_system
