use Rattle.laws_steps.proofs.inside.Streamed.{streamed_files_stay_found}
use Rattle.laws_steps.proofs.lines.streamed_files_stay_found.Goals as goal

pub returns : goal.returns
returns c = streamed_files_stay_found
