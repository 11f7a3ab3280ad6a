use Rattle.laws_operation.proofs.inside.links.OnceOthers.{release_carries_once}
use Rattle.laws_operation.proofs.drop.release_carries_once.Goals as goal

pub returns : goal.returns
returns c = release_carries_once
