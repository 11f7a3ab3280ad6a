use Rattle.laws_record.proofs.inside.FileSteps.{cut_is_the_step}
use Rattle.laws_record.proofs.steps.cut_is_the_step.Goals as goal

pub returns : goal.returns
returns c = cut_is_the_step
