use Rattle.laws_record.proofs.DropSteps.{drop_is_the_step}
use Rattle.laws_record.proofs.steps.drop_is_the_step.Goals as goal

pub returns : goal.returns
returns c = drop_is_the_step
