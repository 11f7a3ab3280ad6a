use Rattle.exec_steps.proofs.Joining.{step_stops}
use Rattle.exec_steps.proofs.laws.step_stops.Goals as goal

pub returns : goal.returns
returns g c = step_stops _ _
