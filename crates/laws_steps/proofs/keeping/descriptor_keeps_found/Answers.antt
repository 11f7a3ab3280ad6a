use Rattle.laws_steps.proofs.inside.Descriptor.{descriptor_keeps_found}
use Rattle.laws_steps.proofs.keeping.descriptor_keeps_found.Goals as goal

pub returns : goal.returns
returns c = descriptor_keeps_found
