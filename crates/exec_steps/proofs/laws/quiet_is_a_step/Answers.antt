use Rattle.exec_steps.proofs.Several.{quiet_is_a_step}
use Rattle.exec_steps.proofs.laws.quiet_is_a_step.Goals as goal

pub returns : goal.returns
returns g c = quiet_is_a_step _
