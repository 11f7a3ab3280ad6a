use Rattle.laws_operation.proofs.inside.links.OnceGrowing.{grow_carries_once}
use Rattle.laws_operation.proofs.grow.grow_carries_once.Goals as goal

pub returns : goal.returns
returns c = grow_carries_once
