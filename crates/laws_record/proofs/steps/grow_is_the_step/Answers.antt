use Rattle.laws_record.proofs.inside.FileSteps.{grow_is_the_step}
use Rattle.laws_record.proofs.steps.grow_is_the_step.Goals as goal

pub returns : goal.returns
returns c = grow_is_the_step
