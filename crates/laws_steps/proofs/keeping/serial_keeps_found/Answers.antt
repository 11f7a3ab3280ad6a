use Rattle.laws_steps.proofs.inside.Descriptor.{serial_keeps_found}
use Rattle.laws_steps.proofs.keeping.serial_keeps_found.Goals as goal

pub returns : goal.returns
returns c = serial_keeps_found
