use Rattle.laws_steps.proofs.inside.Descriptor.{opening_keeps_found}
use Rattle.laws_steps.proofs.keeping.opening_keeps_found.Goals as goal

pub returns : goal.returns
returns c = opening_keeps_found
