use Rattle.laws_record.proofs.inside.FileSteps.{put_is_the_step}
use Rattle.laws_record.proofs.steps.put_is_the_step.Goals as goal

pub returns : goal.returns
returns c = put_is_the_step
