use Rattle.laws_line.proofs.inside.crashes.Spared.{put_leaves_the_system}
use Rattle.laws_line.proofs.system.put_leaves_the_system.Goals as goal

pub returns : goal.returns
returns c = put_leaves_the_system
