use Rattle.laws_line.proofs.inside.crashes.Spared.{leader_leaves_the_system}
use Rattle.laws_line.proofs.system.leader_leaves_the_system.Goals as goal

pub returns : goal.returns
returns c = leader_leaves_the_system
