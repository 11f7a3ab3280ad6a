use Rattle.laws_midway.proofs.inside.Founding.{found_file_has_its_name}
use Rattle.laws_midway.proofs.found.found_file_has_its_name.Goals as goal

pub returns : goal.returns
returns c = found_file_has_its_name
