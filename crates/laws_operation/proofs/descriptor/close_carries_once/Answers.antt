use Rattle.laws_operation.proofs.inside.links.OnceOthers.{close_carries_once}
use Rattle.laws_operation.proofs.descriptor.close_carries_once.Goals as goal

pub returns : goal.returns
returns c = close_carries_once
