use Rattle.exec_steps.proofs.Several.{does_is_a_step}
use Rattle.exec_steps.proofs.laws.does_is_a_step.Goals as goal

pub returns : goal.returns
returns g c = does_is_a_step _
