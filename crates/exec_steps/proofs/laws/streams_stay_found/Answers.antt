use Rattle.exec_steps.proofs.Streamed.{streams_stay_found}
use Rattle.exec_steps.proofs.laws.streams_stay_found.Goals as goal

pub returns : goal.returns
returns c = streams_stay_found
