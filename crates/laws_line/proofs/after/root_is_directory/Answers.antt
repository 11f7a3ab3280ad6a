use Rattle.laws_line.proofs.inside.Roomy.{root_is_directory}
use Rattle.laws_line.proofs.after.root_is_directory.Goals as goal

pub returns : goal.returns
returns c = root_is_directory
