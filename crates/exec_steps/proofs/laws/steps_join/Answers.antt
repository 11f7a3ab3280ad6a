use Rattle.exec_steps.proofs.Joining.{steps_join}
use Rattle.exec_steps.proofs.laws.steps_join.Goals as goal

pub returns : goal.returns
returns g c = steps_join _ _
