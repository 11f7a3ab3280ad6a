use Rattle.exec_steps.proofs.Stepping.{call_is_a_step}
use Rattle.exec_steps.proofs.laws.call_is_a_step.Goals as goal

pub returns : goal.returns
returns g c = call_is_a_step _
