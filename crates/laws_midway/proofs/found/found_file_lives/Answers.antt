use Rattle.laws_midway.proofs.inside.Founding.{found_file_lives}
use Rattle.laws_midway.proofs.found.found_file_lives.Goals as goal

pub returns : goal.returns
returns c = found_file_lives
