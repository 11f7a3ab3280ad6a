use Rattle.laws_line.proofs.inside.ReadDirectories.{directories_are_read}
use Rattle.laws_line.proofs.after.directories_are_read.Goals as goal

pub returns : goal.returns
returns c = directories_are_read
