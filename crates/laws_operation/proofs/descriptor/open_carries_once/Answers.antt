use Rattle.laws_operation.proofs.inside.links.OnceOthers.{open_carries_once}
use Rattle.laws_operation.proofs.descriptor.open_carries_once.Goals as goal

pub returns : goal.returns
returns c = open_carries_once
