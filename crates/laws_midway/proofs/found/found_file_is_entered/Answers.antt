use Rattle.laws_midway.proofs.inside.Founding.{found_file_is_entered}
use Rattle.laws_midway.proofs.found.found_file_is_entered.Goals as goal

pub returns : goal.returns
returns c = found_file_is_entered
