use Rattle.laws_line.proofs.inside.SettledNewFile.{new_directory}
use Rattle.laws_line.proofs.after.new_directory.Goals as goal

pub returns : goal.returns
returns c = new_directory
