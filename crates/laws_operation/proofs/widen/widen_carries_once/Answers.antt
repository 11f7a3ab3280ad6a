use Rattle.laws_operation.proofs.inside.links.OnceGrowing.{widen_carries_once}
use Rattle.laws_operation.proofs.widen.widen_carries_once.Goals as goal

pub returns : goal.returns
returns c = widen_carries_once
