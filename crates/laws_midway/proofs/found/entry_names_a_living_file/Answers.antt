use Rattle.laws_midway.proofs.inside.Founding.{entry_names_a_living_file}
use Rattle.laws_midway.proofs.found.entry_names_a_living_file.Goals as goal

pub returns : goal.returns
returns c = entry_names_a_living_file
