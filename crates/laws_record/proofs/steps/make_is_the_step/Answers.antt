use Rattle.laws_record.proofs.inside.Making.{make_is_the_step}
use Rattle.laws_record.proofs.steps.make_is_the_step.Goals as goal

pub returns : goal.returns
returns c = make_is_the_step
