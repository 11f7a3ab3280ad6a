use Rattle.laws_steps.proofs.inside.Leaving.{other_files_stay_found}
use Rattle.laws_steps.proofs.lines.other_files_stay_found.Goals as goal

pub returns : goal.returns
returns c = other_files_stay_found
