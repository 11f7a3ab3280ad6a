use Rattle.laws_operation.proofs.inside.links.OnceOthers.{cut_carries_once}
use Rattle.laws_operation.proofs.cut.cut_carries_once.Goals as goal

pub returns : goal.returns
returns c = cut_carries_once
