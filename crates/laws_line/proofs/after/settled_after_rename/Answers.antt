use Rattle.laws_line.proofs.inside.SettledRename.{settled_after_rename}
use Rattle.laws_line.proofs.after.settled_after_rename.Goals as goal

pub returns : goal.returns
returns c = settled_after_rename
