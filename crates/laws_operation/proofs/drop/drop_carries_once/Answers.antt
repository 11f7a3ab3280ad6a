use Rattle.laws_operation.proofs.inside.links.OnceOthers.{drop_carries_once}
use Rattle.laws_operation.proofs.drop.drop_carries_once.Goals as goal

pub returns : goal.returns
returns c = drop_carries_once
