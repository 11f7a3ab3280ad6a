use Rattle.laws_record.proofs.DirSteps.{leave_is_the_step}
use Rattle.laws_record.proofs.steps.leave_is_the_step.Goals as goal

pub returns : goal.returns
returns c = leave_is_the_step
