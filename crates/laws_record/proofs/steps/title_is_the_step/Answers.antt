use Rattle.laws_record.proofs.LeaderSteps.{title_is_the_step}
use Rattle.laws_record.proofs.steps.title_is_the_step.Goals as goal

pub returns : goal.returns
returns c = title_is_the_step
