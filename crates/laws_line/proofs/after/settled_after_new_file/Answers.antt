use Rattle.laws_line.proofs.inside.SettledNewFile.{settled_after_new_file}
use Rattle.laws_line.proofs.after.settled_after_new_file.Goals as goal

pub returns : goal.returns
returns c = settled_after_new_file
