use Rattle.laws_record.proofs.LeaderSteps.{stamp_is_the_step}
use Rattle.laws_record.proofs.steps.stamp_is_the_step.Goals as goal

pub returns : goal.returns
returns c = stamp_is_the_step
