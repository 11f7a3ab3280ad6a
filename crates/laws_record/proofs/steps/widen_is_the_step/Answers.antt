use Rattle.laws_record.proofs.DirSteps.{widen_is_the_step}
use Rattle.laws_record.proofs.steps.widen_is_the_step.Goals as goal

pub returns : goal.returns
returns c = widen_is_the_step
