use Rattle.laws_steps.proofs.inside.Serials.{serial_is_the_models}
use Rattle.laws_steps.proofs.serials.serial_is_the_models.Goals as goal

pub returns : goal.returns
returns c = serial_is_the_models
