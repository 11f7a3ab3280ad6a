use Rattle.laws_line.proofs.inside.crashes.Spared.{slot_leaves_the_system}
use Rattle.laws_line.proofs.system.slot_leaves_the_system.Goals as goal

pub returns : goal.returns
returns c = slot_leaves_the_system
